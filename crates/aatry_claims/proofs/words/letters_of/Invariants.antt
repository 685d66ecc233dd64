use Rattle.std.proofs.Common.{◌≡◌, length}
use Rattle.aatry_claims.specs.Words.{letters_from}
use Rattle.aatry_claims.proofs.words.letters_of.Given as goal

-- the set so far, with the letters that are left, decides
abbrev pub invariant-loop-rest : goal.invariant-loop-rest
invariant-loop-rest l = letters_from l.set.0 l.rest ≡ letters_from 0 l.word

abbrev pub decreases-loop-rest : goal.decreases-loop-rest
decreases-loop-rest l = length l.rest
