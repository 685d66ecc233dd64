-- What the code's own forms mean: what is remembered of runs, and how the patterns of ends are collected. No public contract names these.
pub mod Ends
pub mod Memos
