-- What is about the code: how the members of a folder are collected, and the index of each name.
pub mod Gathered
pub mod Places
