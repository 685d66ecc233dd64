pub mod Changes
pub mod Folded
pub mod Laws
pub mod PartChanges
pub mod Stat
pub mod code
