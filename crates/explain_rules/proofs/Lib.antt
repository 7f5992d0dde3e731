pub mod Fields
pub mod Places
pub mod Says
pub mod Whole
pub mod Example
