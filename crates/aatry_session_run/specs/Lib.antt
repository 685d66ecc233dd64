pub mod Broken
pub mod Ends
pub mod Faults
pub mod Notes
pub mod Session
pub mod Status
pub mod Undoing
pub mod code
