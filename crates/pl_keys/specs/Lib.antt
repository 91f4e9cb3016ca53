pub mod Keys
pub mod Limits
pub mod Steps
pub mod Table
pub mod Trim
pub mod Values
