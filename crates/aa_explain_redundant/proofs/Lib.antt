pub mod CopyLemmas
pub mod ExampleLemmas
pub mod KindLemmas
pub mod LeftLemmas
pub mod PathLemmas
pub mod SameLemmas
pub mod StandLemmas
