pub mod Loads
pub mod Rows
pub mod Networks
