-- Definitions about the code: the invariant of the loop over pieces of an input.
pub mod Session
