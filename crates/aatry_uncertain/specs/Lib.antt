pub mod Fitting
pub mod Heads
pub mod LeftOutHeads
pub mod SeenHeads
pub mod Told
