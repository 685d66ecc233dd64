-- What is about the code: what its syntax is as the definitions see it, what it returns for what comes next, and which names it keeps.
pub mod Members
pub mod Names
pub mod Readings
pub mod Seen
pub mod SomeProfiles
