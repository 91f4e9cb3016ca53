pub mod Mesh
pub mod Tokens
pub mod Form
pub mod Grammar
pub mod Reading
pub mod Reader
pub mod Coordinates
pub mod Spans
