pub mod Elsewhere
pub mod Exactly
pub mod Numbers
pub mod Ranges
