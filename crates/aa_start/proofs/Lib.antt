pub mod EndLemmas
pub mod FaultLemmas
mod GatheringLemmas
mod LawLemmas
pub mod LineLemmas
mod NameLemmas
pub mod OptionLemmas
pub mod PlainLemmas
mod ReadableLemmas
mod ReadingLemmas
pub mod RowLemmas
mod RunLemmas
pub mod WalkLemmas
pub mod WordLemmas
