pub mod Classes
pub mod Conflicting
pub mod Leads
pub mod States
