pub mod Growing
pub mod Sessions
pub mod Relays
pub mod Short
pub mod Plates
