use Rattle.aatry_test.proofs.HoldLemmas.{depend_on_steps}
use Rattle.aatry_test.proofs.assertion_laws.what_assertions_depend_on.Goals as goal

pub returns : goal.returns
returns c = depend_on_steps
