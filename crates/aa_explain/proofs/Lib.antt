mod AttachedAlikeLemmas
mod AttachmentLemmas
mod LedAlikeLemmas
mod NamedLemmas
mod PatternLemmas
mod StartAlikeLemmas
mod StartLemmas
mod TwinLemmas
