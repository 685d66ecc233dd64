-- How far the sets have been found. No public contract names these.
pub mod AllTexts
pub mod Apart
pub mod Closing
pub mod Kept
pub mod Rooms
pub mod Settling
pub mod Told
pub mod Views
