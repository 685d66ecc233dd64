pub mod Laws
pub mod Patterns
pub mod Places
pub mod StartChanges
pub mod Starters
pub mod code
