pub mod Answers
pub mod Examples
pub mod Laws
pub mod Left
pub mod Redundant
pub mod Seen
pub mod Trying
pub mod code
