-- What the code's own forms mean. No public contract names these.
pub mod Followed
pub mod Growths
pub mod Noted
pub mod Numbered
pub mod SeenGroups
