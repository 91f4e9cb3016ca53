pub mod Stands
pub mod Commands
pub mod Rises
pub mod Clearing
pub mod Closing
mod Joining
