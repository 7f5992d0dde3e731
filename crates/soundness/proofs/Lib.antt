-- Laws: `Columnwise` ties what is tested of whole columns to the rows.
pub mod Columnwise
