pub mod Batches
pub mod Passes
