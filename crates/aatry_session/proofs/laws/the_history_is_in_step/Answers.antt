use Rattle.aatry_session.proofs.LawLemmas.{adds, as_lines, begins, forgets, leaves, leaves_adding, refused, stays, switches}
use Rattle.aatry_session.proofs.laws.the_history_is_in_step.Goals as goal

pub returns-clause-begins : goal.returns-clause-begins
returns-clause-begins c = begins c.what_marks_mark.ensures.started_marks_its_sets

pub returns-clause-stays : goal.returns-clause-stays
returns-clause-stays c = stays (record {
  back = c.where_machines_go_back_to.ensures.lengths_after_back;
  on = c.where_machines_go_back_to.ensures.lengths_after_on;
  keep = c.what_going_to_marks_keeps.ensures.mark_keeps_all;
  marks = c.what_marks_mark.ensures.steps_mark_their_sets;
})

pub returns-clause-left : goal.returns-clause-left
returns-clause-left c = leaves (record {
  back = c.where_machines_go_back_to.ensures.lengths_after_back;
  on = c.where_machines_go_back_to.ensures.lengths_after_on;
  keep = c.what_going_to_marks_keeps.ensures.mark_keeps_all;
  marks = c.what_marks_mark.ensures.steps_mark_their_sets;
})

pub returns-clause-adds : goal.returns-clause-adds
returns-clause-adds c = adds (record {
  back = c.where_machines_go_back_to.ensures.lengths_after_back;
  on = c.where_machines_go_back_to.ensures.lengths_after_on;
  keep = c.what_going_to_marks_keeps.ensures.mark_keeps_all;
  marks = c.what_marks_mark.ensures.steps_mark_their_sets;
})

pub returns-clause-switches : goal.returns-clause-switches
returns-clause-switches c = switches (record {
  back = c.where_machines_go_back_to.ensures.lengths_after_back;
  on = c.where_machines_go_back_to.ensures.lengths_after_on;
  keep = c.what_going_to_marks_keeps.ensures.mark_keeps_all;
  marks = c.what_marks_mark.ensures.steps_mark_their_sets;
})

pub returns-clause-left_adding : goal.returns-clause-left_adding
returns-clause-left_adding c = leaves_adding (record {
  back = c.where_machines_go_back_to.ensures.lengths_after_back;
  on = c.where_machines_go_back_to.ensures.lengths_after_on;
  keep = c.what_going_to_marks_keeps.ensures.mark_keeps_all;
  marks = c.what_marks_mark.ensures.steps_mark_their_sets;
})

pub returns-clause-forgets : goal.returns-clause-forgets
returns-clause-forgets c = forgets

pub returns-clause-as_lines : goal.returns-clause-as_lines
returns-clause-as_lines c = as_lines

pub returns-clause-refused : goal.returns-clause-refused
returns-clause-refused c = refused c.the_way_back.ensures.refused_line_leaves_all
