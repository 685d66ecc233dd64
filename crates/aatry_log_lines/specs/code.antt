-- Definitions about the code: askers, as the code holds them.
pub mod Askers
