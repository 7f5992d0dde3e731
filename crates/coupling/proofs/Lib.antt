pub mod Filling
pub mod Ranking
pub mod Running
pub mod Answering
