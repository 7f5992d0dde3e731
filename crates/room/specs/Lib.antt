pub mod Room
pub mod Lent
