pub mod ListedLemmas
pub mod StackNameLemmas
