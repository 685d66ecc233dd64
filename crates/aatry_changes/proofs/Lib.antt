mod CountLemmas
mod FoldLemmas
mod LawLemmas
mod ToldLemmas
