pub mod Codes
pub mod Searches
pub mod Arrows
pub mod Closures
pub mod Untouched
pub mod Sets
pub mod Differing
pub mod Lawful
