pub mod Range
pub mod Refuse
pub mod Refusal
