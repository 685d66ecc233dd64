mod ColorLemmas
mod LawLemmas
