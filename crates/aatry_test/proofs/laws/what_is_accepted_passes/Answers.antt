use Rattle.aatry_test.proofs.LawLemmas.{accepted_pass}
use Rattle.aatry_test.proofs.laws.what_is_accepted_passes.Goals as goal

pub returns : goal.returns
returns c = accepted_pass
