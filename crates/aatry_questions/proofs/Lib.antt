pub mod FaultLemmas
mod MeantLemmas
pub mod NameLemmas
pub mod TableLemmas
mod WordLemmas
