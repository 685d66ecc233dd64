use Rattle.std.proofs.Common.{◌≡◌, length}
use Rattle.std.specs.List.{All, list_any}
use Rattle.aa_explain_changes.specs.FileChanges.{changes_so}
use Rattle.aa_explain_changes.specs.Sides.{Sides}
use Rattle.aa_explain_changes.specs.code.Kinds.{IsKind, paths_of_kinds}
use Rattle.aa_explain_changes.proofs.kinds.some_change_so.Given as goal

-- none so far changes so: the others decide
abbrev pub invariant-loop-rest : goal.invariant-loop-rest
invariant-loop-rest l =
    (sides : Sides) → All (IsKind sides) l.kinds
    → All (IsKind sides) l.rest × (list_any (changes_so sides l.change) (paths_of_kinds l.rest) ≡ list_any (changes_so sides l.change) (paths_of_kinds l.kinds))

abbrev pub decreases-loop-rest : goal.decreases-loop-rest
decreases-loop-rest l = length l.rest
