pub mod Limits
pub mod Edges
pub mod Crossed
pub mod Refusals
pub mod Numbering
pub mod Ranges
