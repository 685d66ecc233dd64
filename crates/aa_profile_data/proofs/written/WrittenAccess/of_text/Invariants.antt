use Rattle.std.proofs.Common.{◌≡◌, length}
use Rattle.aa_profile_data.specs.WrittenAccess.{access_with, nothing_written}
use Rattle.aa_profile_data.proofs.written.WrittenAccess.of_text.Given as goal

-- what was said so far and what the others say is what all say
abbrev pub invariant-loop-rest : goal.invariant-loop-rest
invariant-loop-rest l = access_with l.written l.rest ≡ access_with nothing_written l.text

abbrev pub decreases-loop-rest : goal.decreases-loop-rest
decreases-loop-rest l = length l.rest
