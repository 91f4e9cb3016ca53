pub mod Layers
pub mod Rounds
pub mod Heights
pub mod Footprints
