pub mod Scan
pub mod Follows
pub mod Stops
pub mod Law
pub mod Once
pub mod Near
pub mod PlainLengths
pub mod Extremes
