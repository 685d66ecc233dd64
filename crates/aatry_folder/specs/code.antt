-- Definitions about the code: how the names of one folder are appended to those that were found.
pub mod Step
