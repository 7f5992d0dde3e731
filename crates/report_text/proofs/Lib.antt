pub mod Lines
pub mod Levels
pub mod Judging
pub mod Points
