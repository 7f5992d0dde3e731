pub mod System
pub mod Input
pub mod Output
pub mod Due
pub mod Run
pub mod Told
pub mod Words
