mod FrontLemmas
mod MatchLemmas
mod RunLemmas
