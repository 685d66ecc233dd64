use Rattle.aatry_folder.proofs.MissingLemmas.{include-missing, whole-missing}
use Rattle.aatry_folder.proofs.laws.what_is_missing_is_asked_for.Goals as goal

pub returns-clause-include : goal.returns-clause-include
returns-clause-include c = include-missing

pub returns-clause-itself : goal.returns-clause-itself
returns-clause-itself c = whole-missing
