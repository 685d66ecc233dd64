use Rattle.std.proofs.Common.{◌≡◌, map, length}
use Rattle.aa_explain_redundant.specs.Left.{speaks}
use Rattle.aa_explain_redundant.specs.Seen.{seen_numbered}
use Rattle.aa_explain_redundant.proofs.trying.speaks.Given as goal

-- none so far is of the written rule: the others decide
abbrev pub invariant-loop-rest : goal.invariant-loop-rest
invariant-loop-rest l = speaks l.number (map seen_numbered l.rest) ≡ speaks l.number (map seen_numbered l.rules)

abbrev pub decreases-loop-rest : goal.decreases-loop-rest
decreases-loop-rest l = length l.rest
