use Rattle.std.proofs.Common.{◌≡◌, ℕ, List, length}
use Rattle.std.specs.Prelude.{Option}
use Rattle.std.specs.Fn.{FnReturnsAt}
use Rattle.aa_text_expansion.specs.Names.{Answers}
use Rattle.aa_text_expansion.specs.Numbers.{numbers_in, with_indexes}
use Rattle.aa_text_expansion.proofs.numbers.gather.Given as goal

-- the numbers so far, and those of the rest, are all
abbrev pub invariant-loop-part : goal.invariant-loop-part
invariant-loop-part g l = (index : List ℕ → Option ℕ) → Answers (FnReturnsAt g.F.Fn l.number) index
    → with_indexes l.gathered.keys (numbers_in index l.rest) ≡ with_indexes l.fn.gathered.keys (numbers_in index l.text)

abbrev pub decreases-loop-part : goal.decreases-loop-part
decreases-loop-part g l = length l.rest
