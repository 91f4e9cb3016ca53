pub mod LineLemmas
pub mod SurfaceLemmas
pub mod Weave
