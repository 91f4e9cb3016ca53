pub mod Layers
pub mod Surfaces
pub mod Turns
