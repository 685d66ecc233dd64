-- What is about the code: starts that are told so far, and profiles that none leads to. No public contract names these.
pub mod Going
pub mod LedTo
pub mod Telling
