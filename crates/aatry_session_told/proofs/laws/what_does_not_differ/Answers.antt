use Rattle.aatry_session_told.proofs.SameLemmas.{same}
use Rattle.aatry_session_told.proofs.laws.what_does_not_differ.Goals as goal

pub returns : goal.returns
returns c = same
