use Rattle.aa_explain_reach.proofs.StartLemmas.{starts-alike, starts-all}
use Rattle.aa_explain_reach.proofs.WholeLemmas.{wanted-matched}
use Rattle.aa_explain_reach.proofs.start_laws.how_starts_depend_on_paths.Goals as goal

pub returns-clause-alike : goal.returns-clause-alike
returns-clause-alike c = starts-alike

pub returns-clause-all : goal.returns-clause-all
returns-clause-all c = starts-all

pub returns-clause-wanted : goal.returns-clause-wanted
returns-clause-wanted c = λ entries asker owned path. wanted-matched owned path entries asker
