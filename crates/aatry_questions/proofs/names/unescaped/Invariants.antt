use Rattle.std.proofs.Common.{◌≡◌, ◌++◌, length}
use Rattle.aatry_questions.specs.Names.{unescaped}
use Rattle.aatry_questions.proofs.names.unescaped.Given as goal

-- the bytes so far, with those that what is left writes, are all
abbrev pub invariant-loop-rest : goal.invariant-loop-rest
invariant-loop-rest l = l.bytes.items ++ unescaped l.rest ≡ unescaped l.word

abbrev pub decreases-loop-rest : goal.decreases-loop-rest
decreases-loop-rest l = length l.rest
