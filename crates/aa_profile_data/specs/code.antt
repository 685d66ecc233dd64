-- What is about the code: how far the text of an access is read.
pub mod Beginnings
