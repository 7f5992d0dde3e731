pub mod Bookings
pub mod Intakes
pub mod LongLines
pub mod Takings
