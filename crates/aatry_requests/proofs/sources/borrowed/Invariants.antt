use Rattle.std.proofs.Common.{◌≡◌, ◌++◌, length, map}
use Rattle.aatry_requests.proofs.sources.borrowed.Given as goal

-- the words so far, with those that are left, are all
abbrev pub invariant-loop-rest : goal.invariant-loop-rest
invariant-loop-rest l =
    map (λ word. word.now) l.lent.items ++ map (λ word. word.items) l.rest ≡ map (λ word. word.items) l.words

abbrev pub decreases-loop-rest : goal.decreases-loop-rest
decreases-loop-rest l = length l.rest
