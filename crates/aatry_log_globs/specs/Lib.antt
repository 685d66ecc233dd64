pub mod Laws
pub mod Rules
pub mod Runs
pub mod SeenRuns
pub mod Variables
pub mod Widening
