use Rattle.aa_history.proofs.MappedLemmas.{accepted_is_mapped, all_sets_are_mapped, back_is_mapped, can_back_is_mapped, can_on_is_mapped, on_is_mapped, started_is_mapped}
use Rattle.aa_history.proofs.laws.what_sets_stand_for.Goals as goal

pub returns-clause-started_is_mapped : goal.returns-clause-started_is_mapped
returns-clause-started_is_mapped g c = started_is_mapped

pub returns-clause-accepted_is_mapped : goal.returns-clause-accepted_is_mapped
returns-clause-accepted_is_mapped g c = accepted_is_mapped

pub returns-clause-back_is_mapped : goal.returns-clause-back_is_mapped
returns-clause-back_is_mapped g c = λ f n m _. back_is_mapped f n m

pub returns-clause-on_is_mapped : goal.returns-clause-on_is_mapped
returns-clause-on_is_mapped g c = λ f n m _. on_is_mapped f n m

pub returns-clause-can_back_is_mapped : goal.returns-clause-can_back_is_mapped
returns-clause-can_back_is_mapped g c = can_back_is_mapped

pub returns-clause-can_on_is_mapped : goal.returns-clause-can_on_is_mapped
returns-clause-can_on_is_mapped g c = can_on_is_mapped

pub returns-clause-all_sets_are_mapped : goal.returns-clause-all_sets_are_mapped
returns-clause-all_sets_are_mapped g c = all_sets_are_mapped
