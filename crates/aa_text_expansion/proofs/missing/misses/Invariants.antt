use Rattle.std.proofs.Common.{◌≡◌, ℕ, Bool, List, length}
use Rattle.std.specs.Fn.{FnReturnsAt}
use Rattle.aa_text_expansion.specs.Missing.{has_missing}
use Rattle.aa_text_expansion.specs.Names.{Answers}
use Rattle.aa_text_expansion.proofs.missing.misses.Given as goal

-- nothing is missing in the parts so far
abbrev pub invariant-loop-part : goal.invariant-loop-part
invariant-loop-part g l = (test : List ℕ → Bool) → Answers (FnReturnsAt g.F.Fn l.missing) test → has_missing test l.rest ≡ has_missing test l.text

abbrev pub decreases-loop-part : goal.decreases-loop-part
decreases-loop-part g l = length l.rest
