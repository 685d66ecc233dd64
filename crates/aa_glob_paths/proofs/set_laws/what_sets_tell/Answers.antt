use Rattle.aa_glob_paths.proofs.SettledLemmas.{not-passed_over}
use Rattle.aa_glob_paths.proofs.TextLemmas.{closed-reachable, sets-tell}
use Rattle.aa_glob_paths.proofs.set_laws.what_sets_tell.Goals as goal

pub returns-clause-closed : goal.returns-clause-closed
returns-clause-closed c = closed-reachable

pub returns-clause-patterns : goal.returns-clause-patterns
returns-clause-patterns c = sets-tell

pub returns-clause-settled : goal.returns-clause-settled
returns-clause-settled c = not-passed_over
