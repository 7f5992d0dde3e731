pub mod Fractions
pub mod Places
pub mod Many
pub mod OneCrossing
pub mod Ranges
pub mod Room
