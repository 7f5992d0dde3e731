pub mod Grouped
pub mod Sums
pub mod Told
pub mod Points
