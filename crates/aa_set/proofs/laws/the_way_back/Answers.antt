use Rattle.aa_set.proofs.LawLemmas.{distinct, restored, steps-add, steps-return}
use Rattle.aa_set.proofs.StayLaws.{other-leaves, refused-leaves, set-decides}
use Rattle.aa_set.proofs.laws.the_way_back.Goals as goal

pub returns-clause-undo_gives_back : goal.returns-clause-undo_gives_back
returns-clause-undo_gives_back c = restored c.where_machines_go_back_to.ensures.back_from_new_sets

pub returns-clause-steps_add_and_return : goal.returns-clause-steps_add_and_return
returns-clause-steps_add_and_return c =
    let on = c.how_machines_go_back_and_on.ensures in
    let left = c.where_machines_go_back_to.ensures in (
      steps-add on.can_go_back_in_parts on.goes_back_in_parts on.can_go_on_in_parts on.goes_on_in_parts,
      steps-return left.lengths_after_back on.on_after_back left.lengths_after_on on.back_after_on,
    )

pub returns-clause-sets_have_distinct_names : goal.returns-clause-sets_have_distinct_names
returns-clause-sets_have_distinct_names c = distinct (record {
  back = c.what_machines_keep.ensures.back_keeps_sets;
  on = c.what_machines_keep.ensures.on_keeps_sets;
  changes = c.what_changes_keep.ensures;
  to_mark = c.what_going_to_marks_keeps.ensures.mark_keeps_all;
  started = c.what_marks_mark.ensures.started_marks_its_sets;
  steps = c.what_marks_mark.ensures.steps_mark_their_sets;
})

pub returns-clause-refused_line_leaves_all : goal.returns-clause-refused_line_leaves_all
returns-clause-refused_line_leaves_all c = refused-leaves

pub returns-clause-other_line_leaves_all : goal.returns-clause-other_line_leaves_all
returns-clause-other_line_leaves_all c = other-leaves

pub returns-clause-set_decides_answer : goal.returns-clause-set_decides_answer
returns-clause-set_decides_answer c = set-decides
