pub mod Text
pub mod Grammar
pub mod Reading
pub mod Plates
pub mod Slicing
