pub mod Faults
pub mod Meant
pub mod Misspelled
pub mod Names
