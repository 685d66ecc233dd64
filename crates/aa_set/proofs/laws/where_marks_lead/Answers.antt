use Rattle.aa_set.proofs.MarkLemmas.{back-never-fails, back-twice, mark-gives-back, mark-leaves, same-marks}
use Rattle.aa_set.proofs.laws.where_marks_lead.Goals as goal

pub returns-clause-mark_leaves_sets : goal.returns-clause-mark_leaves_sets
returns-clause-mark_leaves_sets c = mark-leaves

pub returns-clause-back_never_fails : goal.returns-clause-back_never_fails
returns-clause-back_never_fails c = back-never-fails c.what_marks_mark.ensures.started_marks_its_sets c.what_marks_mark.ensures.steps_mark_their_sets c.what_going_to_marks_keeps.ensures.mark_keeps_all

pub returns-clause-mark_gives_back : goal.returns-clause-mark_gives_back
returns-clause-mark_gives_back c = mark-gives-back c.what_marks_mark.ensures.started_marks_its_sets c.what_marks_mark.ensures.steps_mark_their_sets c.marks_lead_back.ensures

pub returns-clause-same_marks_lead_to_one : goal.returns-clause-same_marks_lead_to_one
returns-clause-same_marks_lead_to_one c = same-marks

pub returns-clause-back_twice_is_once : goal.returns-clause-back_twice_is_once
returns-clause-back_twice_is_once c =
    back-twice c.what_marks_mark.ensures.started_marks_its_sets c.what_marks_mark.ensures.steps_mark_their_sets c.what_going_to_marks_keeps.ensures.mark_keeps_all c.what_going_to_marks_keeps.ensures.mark_twice_is_once
