pub mod Step
pub mod OneTime
pub mod Calls
pub mod Points
pub mod Sheet
