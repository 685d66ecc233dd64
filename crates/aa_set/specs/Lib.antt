pub mod Laws
pub mod Limits
pub mod Reply
pub mod Run
pub mod code
