use Rattle.std.proofs.Common.{◌≡◌, length, map}
use Rattle.aatry_check_rules.specs.Finding.{is_absent}
use Rattle.aatry_policy.specs.SeenProfiles.{seen_part}
use Rattle.aatry_check_rules.proofs.finding.is_absent.Given as goal

-- none so far is of the file: those that are left decide
abbrev pub invariant-loop-rest : goal.invariant-loop-rest
invariant-loop-rest l = is_absent (map seen_part l.rest) l.name ≡ is_absent (map seen_part l.parts) l.name

abbrev pub decreases-loop-rest : goal.decreases-loop-rest
decreases-loop-rest l = length l.rest
