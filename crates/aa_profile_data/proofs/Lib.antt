pub mod AccessLemmas
pub mod ConflictLemmas
pub mod FullNameLemmas
mod MatchingLemmas
pub mod NameStackLemmas
pub mod NumberLemmas
pub mod PartLemmas
pub mod PickedLemmas
pub mod PlaceLemmas
pub mod RankLemmas
pub mod SameLemmas
mod StackLemmas
pub mod TransitionLemmas
pub mod WrittenLemmas
