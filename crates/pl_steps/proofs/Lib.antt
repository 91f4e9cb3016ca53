pub mod Each
pub mod Beds
pub mod Boxes
pub mod Whole
pub mod Computed
pub mod Sweeping
