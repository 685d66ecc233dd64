-- Definitions about the code: how far the reading of words has come.
pub mod LogNamed
pub mod PathsLimited
pub mod ValueSoFar
pub mod WordsSoFar
