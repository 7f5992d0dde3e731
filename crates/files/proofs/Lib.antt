pub mod Texts
pub mod Cleared
pub mod Runs
