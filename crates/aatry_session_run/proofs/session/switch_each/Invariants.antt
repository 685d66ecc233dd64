use Rattle.std.proofs.Common.{◌≡◌, length, map}
use Rattle.aatry_session.specs.Switching.{all_switched}
use Rattle.aatry_session_run.proofs.session.switch_each.Given as goal

-- the changes so far, and those of the profiles that are left, make what all make
abbrev pub invariant-loop-rest : goal.invariant-loop-rest
invariant-loop-rest l =
    all_switched l.loading l.session (map (λ profile. profile.name) l.rest) ≡ all_switched l.loading l.initial.session (map (λ profile. profile.name) l.profiles)

abbrev pub decreases-loop-rest : goal.decreases-loop-rest
decreases-loop-rest l = length l.rest
