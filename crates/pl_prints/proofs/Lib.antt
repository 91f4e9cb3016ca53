pub mod FewLemmas
mod FootLemmas
mod OrderLemmas
pub mod PlaceLemmas
pub mod RoomLemmas
pub mod ToolLemmas
mod TopLemmas
