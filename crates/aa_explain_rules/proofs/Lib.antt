mod AmongLemmas
mod DecidingLemmas
pub mod JoinedLemmas
mod LeadingLemmas
mod LoggedLemmas
mod MissingLemmas
mod NarrowLemmas
mod PlaceLemmas
mod StartLemmas
mod WayLemmas
