pub mod Finding
pub mod Graph
pub mod Reach
pub mod Telling
