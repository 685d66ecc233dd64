mod EnteringLemmas
pub mod FoundLemmas
pub mod ListingLemmas
pub mod MemberLemmas
pub mod MissingLemmas
mod OneFileLemmas
pub mod OrderLemmas
pub mod StandingLemmas
pub mod StepLemmas
mod UnreadLemmas
