use Rattle.aa_set.proofs.BreakLemmas.{so-far-front}
use Rattle.aa_set.proofs.laws.what_faults_leave.Goals as goal

pub returns : goal.returns
returns c = so-far-front
