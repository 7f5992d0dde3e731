-- Laws that the proofs of several functions and of other crates cite.
pub mod Names
pub mod Dates
pub mod Readings
pub mod Circuits
pub mod Exact
pub mod Ranges
pub mod Longest
pub mod Headers
pub mod Shown
