pub mod Lines
pub mod Numbers
pub mod Box
pub mod Script
pub mod Commands
pub mod Summary
