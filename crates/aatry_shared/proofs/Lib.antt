mod EntryLemmas
mod GroupLemmas
mod LineLemmas
mod NameLemmas
