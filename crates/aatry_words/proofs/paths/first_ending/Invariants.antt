use Rattle.std.proofs.Common.{◌≡◌, length, map}
use Rattle.aatry_words.specs.Paths.{first_ending}
use Rattle.aatry_words.proofs.paths.first_ending.Given as goal

-- the word is the end of none of the names so far
abbrev pub invariant-loop-rest : goal.invariant-loop-rest
invariant-loop-rest l = first_ending l.word (map (λ name. name.now) l.rest) ≡ first_ending l.word (map (λ name. name.now) l.names)

abbrev pub decreases-loop-rest : goal.decreases-loop-rest
decreases-loop-rest l = length l.rest
