pub mod LineLemmas
pub mod QuestionLemmas
pub mod StreamLemmas
pub mod WordLemmas
