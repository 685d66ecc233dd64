-- What the code's own forms mean: for whom runs are remembered. No public contract names these.
pub mod Askers
