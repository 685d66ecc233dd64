-- What the code's own forms mean: what comes next in a class, and how long a class is. No public contract names these.
pub mod ClassText
pub mod Parts
