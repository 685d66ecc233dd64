use Rattle.std.proofs.Common.{◌≡◌, ◌++◌, ◌+◌, map, length}
use Rattle.aa_explain_redundant.specs.Left.{numbered_from}
use Rattle.aa_explain_redundant.specs.Seen.{seen_numbered}
use Rattle.aa_explain_redundant.proofs.written.numbered.Given as goal

-- the rules so far, with those that are left, are all
abbrev pub invariant-loop-rest : goal.invariant-loop-rest
invariant-loop-rest l = record {
  same : map seen_numbered l.found.items ++ numbered_from l.place l.rules.written.now l.rest ≡ numbered_from 0 l.rules.written.now l.rules.rules.now;
  count : l.place + length l.rest ≡ length l.rules.rules.now;
}

abbrev pub decreases-loop-rest : goal.decreases-loop-rest
decreases-loop-rest l = length l.rest
