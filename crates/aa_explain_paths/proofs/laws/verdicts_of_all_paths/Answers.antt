use Rattle.aa_explain_paths.proofs.VerdictLemmas.{verdicts-alike, verdicts-all}
use Rattle.aa_explain_paths.proofs.laws.verdicts_of_all_paths.Goals as goal

pub returns-clause-alike : goal.returns-clause-alike
returns-clause-alike c = verdicts-alike

pub returns-clause-all : goal.returns-clause-all
returns-clause-all c = verdicts-all
