use Rattle.std.proofs.Common.{take}
use Rattle.std.specs.Fn.{FnReturnsAt}
use Rattle.aa_text_expansion.specs.Numbers.{Gathers, numbers_within}
use Rattle.aa_text_expansion.proofs.numbers.gather_numbers_within.Given as goal

-- the numbers of the words so far are gathered
abbrev pub invariant-loop-word : goal.invariant-loop-word
invariant-loop-word g l = goal.F-IsAlwaysCallable g l.number
    × Gathers (FnReturnsAt g.F.Fn l.number) (λ n. numbers_within n (take l.word-index l.words)) l.fn.gathered.keys l.gathered.keys
