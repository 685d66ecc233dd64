-- Definitions about the code: changes as keys of a table, and the report on one after another.
pub mod Keys
pub mod SameKeys
pub mod Steps
