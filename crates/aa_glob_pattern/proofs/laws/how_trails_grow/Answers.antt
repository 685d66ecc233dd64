use Rattle.aa_glob_syntax.specs.Reading.{items_of}
use Rattle.aa_glob_pattern.proofs.GroupLemmas.{length-groups, stands-beginning, stands-trail_of, trail_behind-reverse, trail_of-behind}
use Rattle.aa_glob_pattern.proofs.laws.how_trails_grow.Goals as goal

pub returns-clause-trails_grow_in_front : goal.returns-clause-trails_grow_in_front
returns-clause-trails_grow_in_front c = trail_behind-reverse

pub returns-clause-whole_trails_grow_by_elements : goal.returns-clause-whole_trails_grow_by_elements
returns-clause-whole_trails_grow_by_elements c = trail_of-behind

pub returns-clause-depth_is_of_open_groups : goal.returns-clause-depth_is_of_open_groups
returns-clause-depth_is_of_open_groups c = length-groups

pub returns-clause-whole_trails_stand_in_groups : goal.returns-clause-whole_trails_stand_in_groups
returns-clause-whole_trails_stand_in_groups c = λ text is_read. stands-trail_of text (items_of text) is_read

pub returns-clause-beginnings_stand_in_groups : goal.returns-clause-beginnings_stand_in_groups
returns-clause-beginnings_stand_in_groups c = stands-beginning
