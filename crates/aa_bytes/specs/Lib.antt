pub mod Bits
pub mod ByteMaps
pub mod ByteSets
pub mod Bytes
pub mod NameMaps
pub mod Quoting
pub mod Texts
