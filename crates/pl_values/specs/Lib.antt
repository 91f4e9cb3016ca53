pub mod Options
pub mod ObjectValues
pub mod Ascending
pub mod PrintValues
pub mod Whole
pub mod Ranges
