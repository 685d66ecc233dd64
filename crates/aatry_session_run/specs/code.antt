-- Definitions about the code: sessions as they are kept.
pub mod Sessions
