mod AlikeAnswerLemmas
mod BelowLemmas
mod CountLemmas
mod DifferenceLemmas
mod LawLemmas
mod PolicyLemmas
mod TextLemmas
