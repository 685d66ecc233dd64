-- Definitions about the code: the slots that a change exchanges, and its parts.
pub mod Making
pub mod Places
