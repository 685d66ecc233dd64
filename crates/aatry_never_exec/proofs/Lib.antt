mod ChainLemmas
mod WordLemmas
