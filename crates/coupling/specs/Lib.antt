pub mod Columns
pub mod InnerTurn
