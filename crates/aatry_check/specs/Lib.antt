pub mod Below
pub mod Checks
pub mod Ends
pub mod Loading
pub mod Others
