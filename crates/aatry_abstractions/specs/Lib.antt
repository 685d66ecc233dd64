pub mod Letting
pub mod Probes
pub mod SeenLetting
