use Rattle.std.proofs.Common.{◌≡◌, ◌++◌, flat_map, length}
use Rattle.aatry_report.specs.Fields.{in_line}
use Rattle.aatry_report.specs.SeenFields.{seen_fields}
use Rattle.aatry_report.proofs.telling.push_fields.Given as goal

-- what was appended so far, with the fields that are left, is all
abbrev pub invariant-loop-rest : goal.invariant-loop-rest
invariant-loop-rest l = l.out.items ++ flat_map in_line (seen_fields l.rest) ≡ l.initial.out.items ++ flat_map in_line (seen_fields l.fields)

abbrev pub decreases-loop-rest : goal.decreases-loop-rest
decreases-loop-rest l = length l.rest
