use Rattle.aa_history.proofs.MarkLawLemmas.{mark_keeps, mark_reached, mark_twice}
use Rattle.aa_history.proofs.laws.what_going_to_marks_keeps.Goals as goal

pub returns-clause-mark_keeps_all : goal.returns-clause-mark_keeps_all
returns-clause-mark_keeps_all g c = mark_keeps

pub returns-clause-mark_is_reached : goal.returns-clause-mark_is_reached
returns-clause-mark_is_reached g c = mark_reached

pub returns-clause-mark_twice_is_once : goal.returns-clause-mark_twice_is_once
returns-clause-mark_twice_is_once g c = mark_twice
