-- The groups that a walk keeps, the innermost first.
use Rattle.std.specs.Prelude.{List, map, reverse}
use Rattle.aa_glob.specs.Walks.{OpenStates}
use Rattle.aa_glob.specs.declared.walk.Group.{Group}

abbrev pub seen_group : Group → OpenStates
seen_group g = record { beginning = g.beginning; ends = reverse g.ends.items }

abbrev pub seen_groups : List Group → List OpenStates
seen_groups gs = map seen_group (reverse gs)
