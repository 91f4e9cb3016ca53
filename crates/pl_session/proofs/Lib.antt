pub mod Entries
pub mod Free
pub mod Alone
pub mod Ways
pub mod Once
