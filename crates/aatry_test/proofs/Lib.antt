mod BelowLemmas
mod CompareLemmas
pub mod HoldLemmas
mod LawLemmas
mod PartLemmas
pub mod RunningLemmas
pub mod StoreLemmas
