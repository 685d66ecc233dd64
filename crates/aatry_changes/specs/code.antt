-- Definitions about the code: changes of parts that are gathered, one part after the other.
pub mod Steps
