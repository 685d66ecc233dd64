pub mod FlagLemmas
pub mod FlagListLemmas
pub mod FlagRefusalLemmas
pub mod FlagTextLemmas
pub mod IdleLemmas
pub mod KeptLemmas
pub mod NarrowLemmas
