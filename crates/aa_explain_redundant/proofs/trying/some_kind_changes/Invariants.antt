use Rattle.std.proofs.Common.{◌≡◌, List, length}
use Rattle.std.specs.List.{All}
use Rattle.aa_explain_redundant.specs.Left.{Numbered}
use Rattle.aa_explain_redundant.specs.code.Kinds.{IsKind, paths_of_kinds, some_change}
use Rattle.aa_explain_redundant.proofs.trying.some_kind_changes.Given as goal

-- nothing changes on the paths of those so far: the others decide
abbrev pub invariant-loop-rest : goal.invariant-loop-rest
invariant-loop-rest l =
    (rules : List Numbered) → All (IsKind rules) l.kinds
    → All (IsKind rules) l.rest
    × (some_change l.audit rules (paths_of_kinds l.rest) l.gone l.number ≡ some_change l.audit rules (paths_of_kinds l.kinds) l.gone l.number)

abbrev pub decreases-loop-rest : goal.decreases-loop-rest
decreases-loop-rest l = length l.rest
