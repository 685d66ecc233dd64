use Rattle.aa_history.proofs.MarkLawLemmas.{mark_is_mapped, marked_is_mapped, to_mark_is_mapped}
use Rattle.aa_history.proofs.laws.what_marked_sets_stand_for.Goals as goal

pub returns-clause-marked_is_mapped : goal.returns-clause-marked_is_mapped
returns-clause-marked_is_mapped g c = marked_is_mapped

pub returns-clause-mark_is_mapped : goal.returns-clause-mark_is_mapped
returns-clause-mark_is_mapped g c = mark_is_mapped

pub returns-clause-to_mark_is_mapped : goal.returns-clause-to_mark_is_mapped
returns-clause-to_mark_is_mapped g c = to_mark_is_mapped
