pub mod Options
pub mod Layers
pub mod Corners
pub mod Parts
pub mod Sweeps
