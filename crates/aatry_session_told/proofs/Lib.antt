mod DifferingLemmas
mod SameLemmas
