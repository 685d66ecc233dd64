-- What the code's own forms mean: what a pattern keeps with its text. No public contract names these.
pub mod Facts
pub mod Literals
pub mod Passes
pub mod Places
