-- What the code's own types mean. No public contract names these.
pub mod Comparing
pub mod Copies
pub mod Examples
pub mod Kinds
