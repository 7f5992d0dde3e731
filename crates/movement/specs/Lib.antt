pub mod Aircraft
pub mod Group
pub mod Kind
pub mod Limits
pub mod Period
pub mod Ranges
pub mod Rules
