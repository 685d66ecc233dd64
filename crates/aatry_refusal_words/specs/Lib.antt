pub mod FlagFaults
pub mod Naming
pub mod Refusals
pub mod TokensAt
