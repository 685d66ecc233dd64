pub mod Program
pub mod Questions
pub mod Status
