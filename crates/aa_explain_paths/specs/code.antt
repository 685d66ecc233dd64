-- What the code's own types mean. No public contract names these.
pub mod Breaking
