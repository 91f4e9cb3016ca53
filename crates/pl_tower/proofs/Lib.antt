pub mod SetLemmas
pub mod OrderLemmas
pub mod HeightLemmas
pub mod LawLemmas
