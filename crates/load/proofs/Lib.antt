pub mod CellLaws
pub mod MoreRows
pub mod RowLaws
pub mod BoundLaws
pub mod SumsLaws
pub mod AccountLaws
