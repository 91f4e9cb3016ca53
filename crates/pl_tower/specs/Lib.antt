pub mod Tools
pub mod Heights
pub mod Tower
