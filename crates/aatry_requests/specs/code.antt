-- Definitions about the code: the entries of a table of tallies.
pub mod Entries
pub mod TallyAt
