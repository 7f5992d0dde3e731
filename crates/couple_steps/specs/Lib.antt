pub mod Table
pub mod Sheet
pub mod Right
pub mod Said
pub mod Written
pub mod Told
pub mod InnerTable
pub mod InnerSheet
