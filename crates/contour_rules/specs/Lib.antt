pub mod Picture
pub mod Squares
pub mod Crossings
pub mod Contours
pub mod Once
pub mod Rule
pub mod EachEdge
