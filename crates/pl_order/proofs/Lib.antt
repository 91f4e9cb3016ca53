pub mod Lists
pub mod Own
pub mod Others
pub mod Counting
pub mod Completing
pub mod Steps
pub mod Staying
