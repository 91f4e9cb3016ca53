pub mod DecimalTexts
pub mod Fronts
pub mod Powers
pub mod Numerals
pub mod Lengths
