use Rattle.std.proofs.Common.{◌≡◌, ◌+◌, ◌++◌, map, length}
use Rattle.aa_explain_redundant.specs.Seen.{seen_numbered}
use Rattle.aa_explain_redundant.specs.code.Kinds.{standing_at}
use Rattle.aa_explain_redundant.proofs.kinds.rules_at.Given as goal

-- the rules so far, with those of what is left, are all
abbrev pub invariant-loop-rest : goal.invariant-loop-rest
invariant-loop-rest l = record {
  same : map seen_numbered l.found.items ++ standing_at l.places l.place (map seen_numbered l.rest) ≡ standing_at l.places 0 (map seen_numbered l.rules);
  count : l.place + length l.rest ≡ length l.rules;
}

abbrev pub decreases-loop-rest : goal.decreases-loop-rest
decreases-loop-rest l = length l.rest
