use Rattle.std.proofs.Common.{◌≡◌, fold, length, map}
use Rattle.aa_explain_redundant.specs.Seen.{seen_numbered}
use Rattle.aa_explain_redundant.specs.code.Kinds.{paths_of_kinds, told_by, told_with}
use Rattle.aa_explain_redundant.proofs.trying.told_by.Given as goal

-- what is told so far, and of those that are left behind it, is all
abbrev pub invariant-loop-rest : goal.invariant-loop-rest
invariant-loop-rest l =
    fold (told_with l.audit (map seen_numbered l.rules) (paths_of_kinds l.kinds)) l.told.items l.rest
    ≡ told_by l.audit (map seen_numbered l.rules) (paths_of_kinds l.kinds) l.tried

abbrev pub decreases-loop-rest : goal.decreases-loop-rest
decreases-loop-rest l = length l.rest
