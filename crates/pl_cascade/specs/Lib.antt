pub mod Slots
pub mod Cascade
pub mod Direct
pub mod Touched
