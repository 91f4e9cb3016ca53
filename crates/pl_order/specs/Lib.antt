pub mod Order
pub mod Ended
