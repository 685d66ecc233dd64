pub mod Finding
pub mod Kinds
pub mod Laws
pub mod Others
pub mod Starts
