pub mod Prepared
pub mod Program
pub mod Streams
pub mod Fault
pub mod Stop
