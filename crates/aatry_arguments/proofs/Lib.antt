mod AskedLemmas
mod CheckLemmas
mod DiffAllLemmas
mod DiffLawLemmas
mod DiffLemmas
mod FlagLemmas
mod LawLemmas
pub mod LanguageLemmas
mod ValueLemmas
