-- What is about the code: how far the reading of a file has come.
pub mod ConflictProgress
pub mod FileReadingProgress
