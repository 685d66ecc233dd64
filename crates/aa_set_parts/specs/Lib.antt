pub mod PartLaws
pub mod Parts
pub mod Remembered
pub mod SlotLaws
pub mod Slots
pub mod code
