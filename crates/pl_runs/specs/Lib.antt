pub mod Script
pub mod Went
pub mod Places
pub mod Seats
pub mod Rows
