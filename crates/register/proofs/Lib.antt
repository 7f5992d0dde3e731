-- Laws that the proofs of several functions and of other crates cite.
pub mod Letters
pub mod Columns
pub mod Writes
pub mod Readings
pub mod Rows
pub mod RoundTrip
pub mod Converse
pub mod Once
pub mod Longest
pub mod LimitsFront
