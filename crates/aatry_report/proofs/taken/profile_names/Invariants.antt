use Rattle.std.proofs.Common.{◌≡◌, ◌++◌, drop, map}
use Rattle.aatry_report.specs.Taken.{profile_names}
use Rattle.aatry_report.proofs.taken.profile_names.Given as goal

-- the names so far, with those of the profiles that are left, are all
abbrev pub invariant-loop-profile : goal.invariant-loop-profile
invariant-loop-profile l = map (λ name. name.now) l.names.items ++ profile_names (drop l.profile-index l.profiles) ≡ profile_names l.profiles
