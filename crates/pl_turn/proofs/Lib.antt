pub mod Lists
pub mod Histories
pub mod Views
pub mod Drawing
pub mod Ending
pub mod Splitting
pub mod Joining
pub mod Closing
