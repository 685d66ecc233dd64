use Rattle.std.proofs.Common.{◌≡◌, ◌++◌, map, length}
use Rattle.aa_explain_redundant.specs.Left.{left_of}
use Rattle.aa_explain_redundant.specs.Seen.{seen_numbered}
use Rattle.aa_explain_redundant.specs.code.Copies.{AreCounted}
use Rattle.aa_explain_redundant.proofs.copies.copies_left.Given as goal

-- the copies so far, with those of what is left to be copied, are all
abbrev pub invariant-loop-rest : goal.invariant-loop-rest
invariant-loop-rest l = record {
  same : l.copies.rules.items ++ left_of l.gone (map seen_numbered l.rest) ≡ left_of l.gone (map seen_numbered l.rules);
  counted : AreCounted l.copies;
}

abbrev pub decreases-loop-rest : goal.decreases-loop-rest
decreases-loop-rest l = length l.rest
