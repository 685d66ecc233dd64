use Rattle.std.proofs.Common.{◌≡◌, length}
use Rattle.std.specs.List.{All}
use Rattle.aa_explain_changes.specs.Sides.{seen_sides}
use Rattle.aa_explain_changes.specs.code.Kinds.{IsKind, first_told, paths_of_kinds}
use Rattle.aa_explain_changes.proofs.rules.first_change.Given as goal

-- nothing is told of those so far: the others decide
abbrev pub invariant-loop-rest : goal.invariant-loop-rest
invariant-loop-rest l =
    let sides = seen_sides l.sides in
    All (IsKind sides) l.rest × (first_told sides l.lone.rule.now (paths_of_kinds l.rest) ≡ first_told sides l.lone.rule.now (paths_of_kinds l.kinds))

abbrev pub decreases-loop-rest : goal.decreases-loop-rest
decreases-loop-rest l = length l.rest
