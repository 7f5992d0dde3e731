pub mod Booking
pub mod InnerTaken
pub mod Intake
pub mod Reading
pub mod Stream
