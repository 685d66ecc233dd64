pub mod Ends
pub mod code
