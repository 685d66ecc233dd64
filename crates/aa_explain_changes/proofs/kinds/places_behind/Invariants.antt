use Rattle.std.proofs.Common.{◌≡◌, ◌++◌, length}
use Rattle.aa_explain_changes.specs.code.Kinds.{places_behind}
use Rattle.aa_explain_changes.proofs.kinds.places_behind.Given as goal

-- the places so far, with those of what is left, are all
abbrev pub invariant-loop-rest : goal.invariant-loop-rest
invariant-loop-rest l = l.found.items ++ places_behind l.count l.rest ≡ places_behind l.count l.places

abbrev pub decreases-loop-rest : goal.decreases-loop-rest
decreases-loop-rest l = length l.rest
