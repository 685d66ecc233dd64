pub mod Finding
pub mod Groups
pub mod Lines
pub mod Missing
pub mod Wheres
pub mod Why
pub mod Written
