use Rattle.std.proofs.Common.{◌≡◌, length}
use Rattle.aatry_report.specs.Fields.{with_fields}
use Rattle.aatry_report.specs.SeenFields.{seen_fields}
use Rattle.aatry_report.specs.SeenRecord.{seen_record}
use Rattle.aatry_report.proofs.telling.put_fields.Given as goal

-- the record so far, with the fields that are left, is the whole
abbrev pub invariant-loop-rest : goal.invariant-loop-rest
invariant-loop-rest l = with_fields (seen_fields l.rest) (seen_record l.into) ≡ with_fields (seen_fields l.fields) (seen_record l.initial.into)

abbrev pub decreases-loop-rest : goal.decreases-loop-rest
decreases-loop-rest l = length l.rest
