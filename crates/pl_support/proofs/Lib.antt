pub mod Carried
pub mod SupportLemmas
