pub mod Says
pub mod Spelled
