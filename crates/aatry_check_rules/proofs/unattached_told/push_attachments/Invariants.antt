use Rattle.std.proofs.Common.{◌≡◌, ◌++◌, length}
use Rattle.std.specs.Prelude.{flat_map}
use Rattle.aa_set_answers.specs.Show.{attachment_line}
use Rattle.aatry_check_rules.proofs.unattached_told.push_attachments.Given as goal

-- the lines so far, with those of the attachments that are left, are all
abbrev pub invariant-loop-rest : goal.invariant-loop-rest
invariant-loop-rest l = l.out.items ++ flat_map attachment_line l.rest ≡ l.initial.out.items ++ flat_map attachment_line l.patterns

abbrev pub decreases-loop-rest : goal.decreases-loop-rest
decreases-loop-rest l = length l.rest
