use Rattle.std.proofs.Common.{◌≡◌, ◌++◌, length, map}
use Rattle.aatry_questions.specs.Names.{unescaped}
use Rattle.aatry_requests.proofs.sources.unescaped_words.Given as goal

-- the bytes of the words so far, with those of what is left, are all
abbrev pub invariant-loop-rest : goal.invariant-loop-rest
invariant-loop-rest l =
    map (λ word. word.items) l.read.items ++ map unescaped (map (λ word. word.now) l.rest) ≡ map unescaped (map (λ word. word.now) l.words)

abbrev pub decreases-loop-rest : goal.decreases-loop-rest
decreases-loop-rest l = length l.rest
