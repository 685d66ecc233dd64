pub mod CycleLaws
pub mod ExpansionLaws
pub mod Expansions
pub mod Variables
pub mod code
