pub mod Letter
pub mod Column
pub mod Cell
pub mod Row
pub mod Write
pub mod Header
pub mod LimitsFile
pub mod InnerCell
