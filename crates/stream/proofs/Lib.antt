pub mod Readings
pub mod LongLines
pub mod Takings
pub mod Pieces
pub mod Turns
pub mod Firsts
pub mod Failing
pub mod Told
