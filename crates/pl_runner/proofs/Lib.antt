pub mod Went
pub mod Leaves
pub mod Idling
pub mod Readying
