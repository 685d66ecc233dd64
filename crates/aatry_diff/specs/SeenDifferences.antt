-- What contracts see of the code's differences.
use Rattle.std.specs.Prelude.{List, map}
use Rattle.aatry_diff.specs.Differing.{Difference}
use Rattle.aatry_diff.specs.declared.finding.Difference.{Difference as CodeDifference}
use Rattle.aatry_requests.specs.SeenTallies.{seen_tally}

abbrev pub seen_difference : CodeDifference → Difference
seen_difference difference = record { tally = seen_tally difference.tally.now; before = difference.before; after = difference.after }

abbrev pub seen_differences : List CodeDifference → List Difference
seen_differences differences = map seen_difference differences
