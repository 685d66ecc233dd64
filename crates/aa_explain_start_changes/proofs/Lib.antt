pub mod LawLemmas
pub mod MemberLemmas
pub mod PutLemmas
pub mod SameLemmas
pub mod StandLemmas
pub mod WholeLemmas
