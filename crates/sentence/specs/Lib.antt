pub mod Sentence
pub mod Told
