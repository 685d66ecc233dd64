mod LoadLemmas
mod LoadedLemmas
mod OriginLemmas
mod PartLemmas
mod PlaceLemmas
mod ReadLemmas
mod SwitchLemmas
mod UnreadLemmas
