pub mod Text
pub mod InnerRoom
pub mod InnerNumbers
