pub mod InnerSteps
pub mod Kinds
