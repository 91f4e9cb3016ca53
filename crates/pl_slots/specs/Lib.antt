pub mod Outputs
pub mod ObjectSteps
pub mod Values
pub mod Batches
pub mod Names
pub mod Fff
