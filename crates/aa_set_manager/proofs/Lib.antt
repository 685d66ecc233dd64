pub mod DistinctLemmas
pub mod ManagerLemmas
pub mod NameLemmas
pub mod PartLemmas
pub mod PlaceLemmas
pub mod ReplyLemmas
