pub mod AgreementLemmas
pub mod AttachmentLemmas
pub mod FindLemmas
pub mod NameLemmas
pub mod PartLemmas
pub mod PickLemmas
pub mod SameLemmas
