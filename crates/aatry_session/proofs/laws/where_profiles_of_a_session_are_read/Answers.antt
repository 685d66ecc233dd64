use Rattle.aatry_session.proofs.KnownLemmas.{adds, begins, forgets, leaves, leaves_adding, loaded-is-known, stays, switches}
use Rattle.aatry_session.proofs.laws.where_profiles_of_a_session_are_read.Goals as goal

pub returns-clause-begins : goal.returns-clause-begins
returns-clause-begins c = begins

pub returns-clause-stays : goal.returns-clause-stays
returns-clause-stays c = stays (record {
  file = c.where_loaded_profiles_are_read.ensures.of_a_file;
  named = c.where_loaded_profiles_are_read.ensures.of_each_name;
  distinct = c.how_profiles_are_named.ensures.no_two_profiles_have_one_name;
  back = c.what_machines_keep.ensures.back_keeps_sets;
  on = c.what_machines_keep.ensures.on_keeps_sets;
  keep = c.what_going_to_marks_keeps.ensures.mark_keeps_all;
})

pub returns-clause-left : goal.returns-clause-left
returns-clause-left c = leaves (record {
  file = c.where_loaded_profiles_are_read.ensures.of_a_file;
  named = c.where_loaded_profiles_are_read.ensures.of_each_name;
  distinct = c.how_profiles_are_named.ensures.no_two_profiles_have_one_name;
  back = c.what_machines_keep.ensures.back_keeps_sets;
  on = c.what_machines_keep.ensures.on_keeps_sets;
  keep = c.what_going_to_marks_keeps.ensures.mark_keeps_all;
})

pub returns-clause-adds : goal.returns-clause-adds
returns-clause-adds c = adds (record {
  file = c.where_loaded_profiles_are_read.ensures.of_a_file;
  named = c.where_loaded_profiles_are_read.ensures.of_each_name;
  distinct = c.how_profiles_are_named.ensures.no_two_profiles_have_one_name;
  back = c.what_machines_keep.ensures.back_keeps_sets;
  on = c.what_machines_keep.ensures.on_keeps_sets;
  keep = c.what_going_to_marks_keeps.ensures.mark_keeps_all;
})

pub returns-clause-switches : goal.returns-clause-switches
returns-clause-switches c = switches (record {
  file = c.where_loaded_profiles_are_read.ensures.of_a_file;
  named = c.where_loaded_profiles_are_read.ensures.of_each_name;
  distinct = c.how_profiles_are_named.ensures.no_two_profiles_have_one_name;
  back = c.what_machines_keep.ensures.back_keeps_sets;
  on = c.what_machines_keep.ensures.on_keeps_sets;
  keep = c.what_going_to_marks_keeps.ensures.mark_keeps_all;
})

pub returns-clause-left_adding : goal.returns-clause-left_adding
returns-clause-left_adding c = leaves_adding (record {
  file = c.where_loaded_profiles_are_read.ensures.of_a_file;
  named = c.where_loaded_profiles_are_read.ensures.of_each_name;
  distinct = c.how_profiles_are_named.ensures.no_two_profiles_have_one_name;
  back = c.what_machines_keep.ensures.back_keeps_sets;
  on = c.what_machines_keep.ensures.on_keeps_sets;
  keep = c.what_going_to_marks_keeps.ensures.mark_keeps_all;
})

pub returns-clause-forgets : goal.returns-clause-forgets
returns-clause-forgets c = forgets

pub returns-clause-loaded : goal.returns-clause-loaded
returns-clause-loaded c = loaded-is-known
