pub mod KeyMaps
pub mod Kept
pub mod Lists
pub mod Once
pub mod Rounds
pub mod Texts
