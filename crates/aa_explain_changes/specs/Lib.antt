pub mod Changes
pub mod FileChanges
pub mod Laws
pub mod Lone
pub mod Rules
pub mod Sides
pub mod code
