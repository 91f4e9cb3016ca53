pub mod Extent
pub mod Lines
pub mod Planes
pub mod Packed
pub mod Strokes
pub mod NearStrokes
pub mod Turned
