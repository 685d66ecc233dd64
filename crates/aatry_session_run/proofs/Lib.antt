mod SessionLemmas
mod UndoingLemmas
