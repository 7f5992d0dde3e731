pub mod Laid
pub mod Refused
pub mod Writing
