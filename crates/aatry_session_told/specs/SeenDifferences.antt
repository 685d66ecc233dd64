-- What contracts see of the code's files that differ.
use Rattle.std.specs.Prelude.{List, map}
use Rattle.aatry_session_told.specs.Differing.{Difference}
use Rattle.aatry_session_told.specs.declared.differing.Difference.{Difference as CodeDifference}

abbrev pub seen_difference : CodeDifference → Difference
seen_difference difference = record { name = difference.name.now; how = difference.how }

abbrev pub seen_differences : List CodeDifference → List Difference
seen_differences differences = map seen_difference differences
