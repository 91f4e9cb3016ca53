pub mod Heights
pub mod PathTexts
pub mod Shares
pub mod WorkedBox
pub mod Written
