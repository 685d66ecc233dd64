pub mod Alike
pub mod Features
pub mod Sections
pub mod code
