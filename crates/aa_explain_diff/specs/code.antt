-- Definitions about the code: features as keys of a table, and that being the same is an equivalence.
pub mod Keys
pub mod SameKeys
