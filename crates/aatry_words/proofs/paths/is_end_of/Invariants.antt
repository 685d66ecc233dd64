use Rattle.std.proofs.Common.{◌≡◌, length}
use Rattle.aatry_words.specs.Paths.{is_end_of}
use Rattle.aatry_words.proofs.paths.is_end_of.Given as goal

-- the word isn't the end of the name behind a slash so far
abbrev pub invariant-loop-rest : goal.invariant-loop-rest
invariant-loop-rest l = is_end_of l.word l.rest ≡ is_end_of l.word l.name

abbrev pub decreases-loop-rest : goal.decreases-loop-rest
decreases-loop-rest l = length l.rest
