-- Laws that the proofs of several functions cite.
pub mod LineLaws
pub mod HeadLaws
pub mod ValueLaws
pub mod RowLaws
pub mod FileLaws
pub mod StoreLaws
pub mod ReadLaws
pub mod WriteSizes
pub mod WriteLaws
pub mod Values
pub mod Back
pub mod Again
