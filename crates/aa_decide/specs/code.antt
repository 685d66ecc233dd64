-- Definitions about the code: its answers as the definitions see them, and the ranks of slots.
pub mod SeenExec
pub mod SlotRanks
