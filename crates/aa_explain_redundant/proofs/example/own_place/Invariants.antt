use Rattle.std.proofs.Common.{◌≡◌, ◌+◌, map, length}
use Rattle.aa_explain_redundant.specs.Examples.{own_place}
use Rattle.aa_explain_redundant.specs.Seen.{seen_numbered}
use Rattle.aa_explain_redundant.proofs.example.own_place.Given as goal

-- none so far is such a rule: those that are left decide
abbrev pub invariant-loop-rest : goal.invariant-loop-rest
invariant-loop-rest l = record {
  same : own_place l.path l.number l.place (map seen_numbered l.rest) ≡ own_place l.path l.number 0 (map seen_numbered l.rules);
  count : l.place + length l.rest ≡ length l.rules;
}

abbrev pub decreases-loop-rest : goal.decreases-loop-rest
decreases-loop-rest l = length l.rest
