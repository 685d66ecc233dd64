mod AlikeLemmas
mod KeyLemmas
