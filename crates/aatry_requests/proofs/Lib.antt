mod LettingLemmas
mod OrderLemmas
mod SourceLemmas
mod TallyLemmas
mod TextLemmas
mod WordLemmas
mod WrongLemmas
