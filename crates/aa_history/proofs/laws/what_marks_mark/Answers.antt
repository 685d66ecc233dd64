use Rattle.aa_history.proofs.MarkLawLemmas.{mark_of_now, mark_of_others, same_marks_lead_to_one, started_marks, run_marks}
use Rattle.aa_history.proofs.laws.what_marks_mark.Goals as goal

pub returns-clause-new_mark_is_of_now : goal.returns-clause-new_mark_is_of_now
returns-clause-new_mark_is_of_now g c = mark_of_now

pub returns-clause-new_mark_leaves_others : goal.returns-clause-new_mark_leaves_others
returns-clause-new_mark_leaves_others g c = mark_of_others

pub returns-clause-started_marks_its_sets : goal.returns-clause-started_marks_its_sets
returns-clause-started_marks_its_sets g c = started_marks

pub returns-clause-steps_mark_their_sets : goal.returns-clause-steps_mark_their_sets
returns-clause-steps_mark_their_sets g c = run_marks

pub returns-clause-same_marks_lead_to_one : goal.returns-clause-same_marks_lead_to_one
returns-clause-same_marks_lead_to_one g c = same_marks_lead_to_one
