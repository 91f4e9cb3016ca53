pub mod Causes
pub mod Failing
pub mod MemoryEnds
pub mod Fronts
pub mod Scripted
