use Rattle.aatry_changes.proofs.LawLemmas.{nothing-told, untold-alike}
use Rattle.aatry_changes.proofs.laws.when_nothing_is_told.Goals as goal

pub returns-clause-of_alike : goal.returns-clause-of_alike
returns-clause-of_alike c = nothing-told

pub returns-clause-only_of_alike : goal.returns-clause-only_of_alike
returns-clause-only_of_alike c = untold-alike
