pub mod Flow
pub mod Spaced
pub mod Lines
