pub mod Looked
pub mod Causes
pub mod Closing
pub mod Probing
pub mod Running
pub mod Stepping
