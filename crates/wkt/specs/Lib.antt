pub mod Places
pub mod Text
pub mod InnerParts
pub mod InnerRuns
pub mod Calls
pub mod Printout
