pub mod Chain
pub mod Laws
pub mod NeverExec
pub mod Telling
