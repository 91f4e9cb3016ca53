pub mod Near
pub mod Blocks
pub mod Texts
pub mod OneReading
pub mod Meaning
