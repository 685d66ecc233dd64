pub mod Commands
pub mod Differing
pub mod DifferingLaws
pub mod Help
pub mod History
pub mod Refusals
pub mod Sayings
pub mod SeenDifferences
