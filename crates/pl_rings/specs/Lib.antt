pub mod Cycles
pub mod Headings
pub mod Sides
pub mod Starts
pub mod Search
pub mod Traces
pub mod Rings
pub mod Laws
