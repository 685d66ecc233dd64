pub mod Files
pub mod Folder
pub mod Limit
pub mod TextError
pub mod code
