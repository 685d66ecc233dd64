mod CompressedLemmas
mod GatheredLemmas
mod InputLemmas
mod LineInputLemmas
