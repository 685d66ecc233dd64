use Rattle.std.proofs.Common.{◌≡◌, length, map}
use Rattle.std.specs.List.{list_any}
use Rattle.aatry_check_rules.specs.Finding.{is_absent}
use Rattle.aatry_policy.specs.SeenProfiles.{seen_part}
use Rattle.aatry_check_rules.proofs.finding.has_absent.Given as goal

-- none so far is absent: those that are left decide
abbrev pub invariant-loop-rest : goal.invariant-loop-rest
invariant-loop-rest l =
    list_any (is_absent (map seen_part l.parts)) (map (λ name. name.now) l.rest) ≡ list_any (is_absent (map seen_part l.parts)) (map (λ name. name.now) l.names)

abbrev pub decreases-loop-rest : goal.decreases-loop-rest
decreases-loop-rest l = length l.rest
