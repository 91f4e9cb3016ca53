pub mod Calls
pub mod Turns
pub mod Plates
pub mod InTurn
