pub mod MessageLemmas
mod PairLemmas
mod QuoteLemmas
mod SeveralLemmas
pub mod LineLemmas
pub mod LoggedLemmas
pub mod NameLemmas
pub mod WrittenLemmas
