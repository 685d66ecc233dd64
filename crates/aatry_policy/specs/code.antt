-- Definitions about the code: the parts of one slot.
pub mod Slots
