pub mod Data
pub mod Reads
