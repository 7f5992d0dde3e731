pub mod Answers
pub mod InnerWalk
pub mod InnerDesk
pub mod InnerFill
pub mod Told
