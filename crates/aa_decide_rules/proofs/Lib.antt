pub mod AgreementLemmas
pub mod BeginningLemmas
pub mod FoundLemmas
mod LineLemmas
pub mod MatchingLemmas
pub mod MatchingPlaceLemmas
mod OrderLemmas
pub mod RankLemmas
pub mod SaidLemmas
pub mod VerdictLemmas
