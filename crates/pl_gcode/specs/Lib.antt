pub mod Print
pub mod Extrusion
pub mod Paths
pub mod Gcode
pub mod IsPrint
pub mod SettingsOf
pub mod Ranges
