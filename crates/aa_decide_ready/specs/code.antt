-- Definitions about the code: what is made ready of profiles.
pub mod Parts
