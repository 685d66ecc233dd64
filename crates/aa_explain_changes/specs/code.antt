-- What the code's own forms mean. No public contract names these.
pub mod Kinds
