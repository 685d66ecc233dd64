-- How the tables of a graph are stored: states in two bytes, and where the ways of each block of them begin.
pub mod Blocks
pub mod Marks
pub mod PackedStates
pub mod Passes
