pub mod Tracing
pub mod Listings
pub mod Borders
pub mod Buffers
pub mod Rows
pub mod Handing
pub mod Telling
