use Rattle.aatry_session.proofs.BehindLemmas.{adds, begins, forgets, leaves, leaves_adding, refuses, stays, switches, undoes}
use Rattle.aatry_session.proofs.UnmarkedLemmas.{adds as adds_none, begins as begins_so, switches as switches_none}
use Rattle.aatry_session.proofs.laws.how_far_sessions_go_back.Goals as goal

pub returns-clause-unmarked : goal.returns-clause-unmarked
returns-clause-unmarked c = begins_so

pub returns-clause-adds_unmarked : goal.returns-clause-adds_unmarked
returns-clause-adds_unmarked c = adds_none

pub returns-clause-switches_unmarked : goal.returns-clause-switches_unmarked
returns-clause-switches_unmarked c = switches_none

pub returns-clause-begins : goal.returns-clause-begins
returns-clause-begins c = begins

pub returns-clause-stays : goal.returns-clause-stays
returns-clause-stays c = stays (record {
  back_sets = c.what_machines_keep.ensures.back_keeps_sets;
  on_sets = c.what_machines_keep.ensures.on_keeps_sets;
  back = c.where_machines_go_back_to.ensures.lengths_after_back;
  on = c.where_machines_go_back_to.ensures.lengths_after_on;
  keep = c.what_going_to_marks_keeps.ensures.mark_keeps_all;
  reached = c.what_going_to_marks_keeps.ensures.mark_is_reached;
})

pub returns-clause-left : goal.returns-clause-left
returns-clause-left c = leaves (record {
  back_sets = c.what_machines_keep.ensures.back_keeps_sets;
  on_sets = c.what_machines_keep.ensures.on_keeps_sets;
  back = c.where_machines_go_back_to.ensures.lengths_after_back;
  on = c.where_machines_go_back_to.ensures.lengths_after_on;
  keep = c.what_going_to_marks_keeps.ensures.mark_keeps_all;
  reached = c.what_going_to_marks_keeps.ensures.mark_is_reached;
})

pub returns-clause-adds : goal.returns-clause-adds
returns-clause-adds c = adds (record {
  back_sets = c.what_machines_keep.ensures.back_keeps_sets;
  on_sets = c.what_machines_keep.ensures.on_keeps_sets;
  back = c.where_machines_go_back_to.ensures.lengths_after_back;
  on = c.where_machines_go_back_to.ensures.lengths_after_on;
  keep = c.what_going_to_marks_keeps.ensures.mark_keeps_all;
  reached = c.what_going_to_marks_keeps.ensures.mark_is_reached;
})

pub returns-clause-left_adding : goal.returns-clause-left_adding
returns-clause-left_adding c = leaves_adding (record {
  back_sets = c.what_machines_keep.ensures.back_keeps_sets;
  on_sets = c.what_machines_keep.ensures.on_keeps_sets;
  back = c.where_machines_go_back_to.ensures.lengths_after_back;
  on = c.where_machines_go_back_to.ensures.lengths_after_on;
  keep = c.what_going_to_marks_keeps.ensures.mark_keeps_all;
  reached = c.what_going_to_marks_keeps.ensures.mark_is_reached;
})

pub returns-clause-switches : goal.returns-clause-switches
returns-clause-switches c = switches (record {
  back_sets = c.what_machines_keep.ensures.back_keeps_sets;
  on_sets = c.what_machines_keep.ensures.on_keeps_sets;
  back = c.where_machines_go_back_to.ensures.lengths_after_back;
  on = c.where_machines_go_back_to.ensures.lengths_after_on;
  keep = c.what_going_to_marks_keeps.ensures.mark_keeps_all;
  reached = c.what_going_to_marks_keeps.ensures.mark_is_reached;
})

pub returns-clause-forgets : goal.returns-clause-forgets
returns-clause-forgets c = forgets

pub returns-clause-undoes : goal.returns-clause-undoes
returns-clause-undoes c = undoes c.where_machines_go_back_to.ensures.back_to_same_sets

pub returns-clause-refuses : goal.returns-clause-refuses
returns-clause-refuses c = refuses
