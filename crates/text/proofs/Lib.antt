-- Laws that the proofs of several functions and of other crates cite.
pub mod Digits
pub mod Shown
pub mod Exact
pub mod Thousandths
pub mod Free
pub mod Fields
pub mod Lines
pub mod Streams
pub mod Sames
pub mod Indices
pub mod Within
pub mod Sheets
pub mod Clocks
pub mod Letters
