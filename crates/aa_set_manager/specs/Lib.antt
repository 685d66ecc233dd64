pub mod ChangeLaws
pub mod Changes
pub mod Limits
pub mod Manager
pub mod Outcomes
pub mod code
