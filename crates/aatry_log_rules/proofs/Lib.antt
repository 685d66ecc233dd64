mod LawLemmas
mod WantedLemmas
mod WiderLemmas
