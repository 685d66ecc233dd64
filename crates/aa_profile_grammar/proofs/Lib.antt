pub mod FileLemmas
pub mod NameLemmas
pub mod PatternLemmas
pub mod PreambleLemmas
pub mod SequenceLemmas
