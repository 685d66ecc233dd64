use Rattle.std.proofs.Common.{◌≡◌, ◌++◌, take, drop}
use Rattle.aa_profile_data.specs.FullNames.{full_name}
use Rattle.aa_profile_data.proofs.full_name.cut_full_name.Given as goal

-- the bytes so far, and what the rest is cut into, are the whole
abbrev pub invariant-loop-at : goal.invariant-loop-at
invariant-loop-at l = record {
  profile : take l.at l.name ++ (full_name (drop l.at l.name)).profile ≡ (full_name l.name).profile;
  child : (full_name (drop l.at l.name)).child ≡ (full_name l.name).child;
}
