-- Definitions about the code: ranks of patterns that match.
pub mod MatchingPlaces
pub mod MatchingRanks
pub mod OwnedRules
pub mod SeenRules
