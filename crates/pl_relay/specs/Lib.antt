pub mod Relay
pub mod Exports
