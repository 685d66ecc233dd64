-- Definitions about the code: how far the reading of logs has come.
pub mod Reading
