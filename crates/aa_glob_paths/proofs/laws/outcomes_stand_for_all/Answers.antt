use Rattle.aa_glob_paths.proofs.StandLemmas.{are-shortest, stand-for-all}
use Rattle.aa_glob_paths.proofs.laws.outcomes_stand_for_all.Goals as goal

pub returns-clause-all : goal.returns-clause-all
returns-clause-all c = stand-for-all

pub returns-clause-shortest : goal.returns-clause-shortest
returns-clause-shortest c = are-shortest
