use Rattle.std.proofs.Common.{◌≡◌, ◌≤◌, ◌+◌, drop}
use Rattle.aa_profile_rules.specs.KeptRules.{count_of}
use Rattle.aa_profile_rules.proofs.kept_rules.count_of.Given as goal

-- those so far, and those of the rest, are all
abbrev pub invariant-loop-other : goal.invariant-loop-other
invariant-loop-other l = record {
  count : l.count + count_of l.byte (drop l.other-index l.text) ≡ count_of l.byte l.text;
  within : l.count ≤ l.other-index;
}
