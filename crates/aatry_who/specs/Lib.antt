pub mod Ends
pub mod Laws
pub mod Letting
pub mod Sought
pub mod Telling
pub mod Unsure
pub mod Who
