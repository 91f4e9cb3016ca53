pub mod Planted
pub mod Keeping
pub mod Falling
pub mod Tickets
pub mod Outcome
pub mod Turned
