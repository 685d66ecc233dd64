use Rattle.std.proofs.Common.{◌≡◌, ◌++◌, length}
use Rattle.aatry_questions.specs.Names.{escaped}
use Rattle.aatry_questions.proofs.names.push_escaped.Given as goal

-- the text so far, with what is left of the name as it is written, is all
abbrev pub invariant-loop-rest : goal.invariant-loop-rest
invariant-loop-rest l = l.out.items ++ escaped l.rest ≡ l.initial.out.items ++ escaped l.name

abbrev pub decreases-loop-rest : goal.decreases-loop-rest
decreases-loop-rest l = length l.rest
