pub mod Totals
pub mod Text
pub mod InnerRoom
