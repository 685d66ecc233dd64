mod CaretLemmas
mod LineLemmas
mod PlaceLemmas
mod RecordLemmas
mod SlashLemmas
