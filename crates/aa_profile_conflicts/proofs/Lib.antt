pub mod ClashLemmas
pub mod ClassLemmas
pub mod FirstLemmas
pub mod PlacedLemmas
pub mod StateLemmas
