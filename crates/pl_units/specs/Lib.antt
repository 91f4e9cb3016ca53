pub mod Decimal
pub mod Lengths
pub mod Micro
pub mod Numeral
pub mod Within
pub mod Writes
