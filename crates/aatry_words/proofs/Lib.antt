mod CalendarLemmas
mod LetterLemmas
mod MaskLemmas
mod MomentLemmas
mod NameLemmas
pub mod NearLemmas
