pub mod Lists
pub mod Joins
pub mod Rows
pub mod Coming
pub mod Made
pub mod Closing
pub mod Back
pub mod Parting
