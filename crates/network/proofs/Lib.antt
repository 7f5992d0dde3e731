pub mod Numbers
pub mod Refusals
pub mod Astride
pub mod Numbering
pub mod Ranges
