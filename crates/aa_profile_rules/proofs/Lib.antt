pub mod NarrowLemmas
pub mod NumberLemmas
pub mod RuleLemmas
