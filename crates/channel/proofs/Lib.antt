pub mod Behind
pub mod Dues
pub mod Running
