pub mod Slots
pub mod Once
pub mod Late
pub mod Calls
pub mod Short
