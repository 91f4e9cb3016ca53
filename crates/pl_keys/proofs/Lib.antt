pub mod Commas
pub mod Fits
pub mod Masks
pub mod Names
