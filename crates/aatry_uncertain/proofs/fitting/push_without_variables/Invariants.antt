use Rattle.std.proofs.Common.{◌≡◌, ◌++◌, false, length}
use Rattle.aatry_uncertain.specs.Fitting.{without_variables}
use Rattle.aatry_uncertain.proofs.fitting.push_without_variables.Given as goal

-- what was appended, with what comes of the bytes that are left, is all
abbrev pub invariant-loop-rest : goal.invariant-loop-rest
invariant-loop-rest l = l.out.items ++ without_variables l.within l.rest ≡ l.initial.out.items ++ without_variables false l.text

abbrev pub decreases-loop-rest : goal.decreases-loop-rest
decreases-loop-rest l = length l.rest
