use Rattle.std.proofs.Common.{◌≡◌, ℕ, Bool, false, List, take}
use Rattle.std.specs.Fn.{FnReturnsAt}
use Rattle.aa_text_expansion.specs.Missing.{have_missing}
use Rattle.aa_text_expansion.specs.Names.{Answers}
use Rattle.aa_text_expansion.proofs.missing.have_missing.Given as goal

-- nothing is missing in the words so far
abbrev pub invariant-loop-word : goal.invariant-loop-word
invariant-loop-word g l = goal.F-IsAlwaysCallable g l.missing × ((test : List ℕ → Bool) → Answers (FnReturnsAt g.F.Fn l.missing) test → have_missing test (take l.word-index l.words) ≡ false)
