pub mod Accepting
pub mod Laws
pub mod Meeting
pub mod Replies
pub mod Transcripts
