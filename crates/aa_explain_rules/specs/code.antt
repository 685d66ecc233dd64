-- Definitions about the code: how it goes over rules at some of their indexes.
pub mod Among
