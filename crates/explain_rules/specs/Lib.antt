pub mod Says
pub mod Explain
pub mod Example
