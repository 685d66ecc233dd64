use Rattle.aatry_diff.proofs.LawLemmas.{some-told}
use Rattle.aatry_diff.proofs.laws.what_differs_is_told.Goals as goal

pub returns : goal.returns
returns c = some-told
