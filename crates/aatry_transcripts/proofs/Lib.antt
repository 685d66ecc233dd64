mod AcceptLemmas
mod LineLemmas
mod MeetLemmas
pub mod PassLemmas
mod ReadBackLemmas
pub mod ReplyLemmas
