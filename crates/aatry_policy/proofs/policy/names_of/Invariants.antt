use Rattle.std.proofs.Common.{◌≡◌, ◌++◌, drop, map}
use Rattle.aatry_policy.proofs.policy.names_of.Given as goal

-- the names so far, with those of the profiles that are left, are all
abbrev pub invariant-loop-profile : goal.invariant-loop-profile
invariant-loop-profile l =
    l.names.items ++ map (λ profile. profile.name) (drop l.profile-index l.profiles) ≡ map (λ profile. profile.name) l.profiles
