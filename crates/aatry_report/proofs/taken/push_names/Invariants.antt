use Rattle.std.proofs.Common.{◌≡◌, ◌++◌, drop}
use Rattle.aatry_report.specs.Taken.{names_text}
use Rattle.aatry_report.proofs.taken.push_names.Given as goal

-- the text so far, with the names of the profiles that are left, is all
abbrev pub invariant-loop-profile : goal.invariant-loop-profile
invariant-loop-profile l = l.out.items ++ names_text (drop l.profile-index l.profiles) ≡ l.initial.out.items ++ names_text l.profiles
