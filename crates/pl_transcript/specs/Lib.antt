pub mod Words
pub mod Commands
pub mod Replies
pub mod Entries
pub mod Growth
pub mod Plain
