-- Definitions about the code: the words that it cuts from a line.
pub mod FirstWord
pub mod Texts
