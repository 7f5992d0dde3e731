pub mod Laws
pub mod Answers
pub mod Writing
pub mod Fronts
