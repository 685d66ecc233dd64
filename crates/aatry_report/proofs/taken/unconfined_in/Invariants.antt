use Rattle.std.proofs.Common.{◌≡◌, ◌≤◌, ◌+◌, drop}
use Rattle.aatry_report.specs.Taken.{unconfined_in}
use Rattle.aatry_report.proofs.taken.unconfined_in.Given as goal

-- the count so far, with that of the profiles that are left, is all
abbrev pub invariant-loop-profile : goal.invariant-loop-profile
invariant-loop-profile l = record {
  all : l.count + unconfined_in (drop l.profile-index l.profiles) ≡ unconfined_in l.profiles;
  few : l.count ≤ l.profile-index;
}
