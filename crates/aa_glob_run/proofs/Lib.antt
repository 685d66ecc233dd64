pub mod MemoLemmas
pub mod PatternLemmas
pub mod ReachLemmas
pub mod RecallLemmas
