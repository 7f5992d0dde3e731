pub mod Reading
pub mod Coming
pub mod InnerTaken
pub mod Feeding
pub mod InnerFeeding
pub mod Refused
