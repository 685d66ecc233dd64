use Rattle.std.proofs.Common.{◌≡◌, ◌++◌, map, length}
use Rattle.aa_explain_changes.specs.FileChanges.{seen_rule_change}
use Rattle.aa_explain_changes.specs.Lone.{seen_lone}
use Rattle.aa_explain_changes.specs.Sides.{seen_sides}
use Rattle.aa_explain_changes.specs.code.Kinds.{AreLoneOf, paths_of_kinds, told_of}
use Rattle.aa_explain_changes.proofs.rules.rule_changes.Given as goal

-- what is told so far, with what is told of the others, is all
abbrev pub invariant-loop-rest : goal.invariant-loop-rest
invariant-loop-rest l =
    let sides = seen_sides l.sides in
    AreLoneOf sides l.is_old (map seen_lone l.rest)
    × (map seen_rule_change l.told.items ++ map (told_of sides (paths_of_kinds l.kinds)) (map seen_lone l.rest)
    ≡ map (told_of sides (paths_of_kinds l.kinds)) (map seen_lone l.lone))

abbrev pub decreases-loop-rest : goal.decreases-loop-rest
decreases-loop-rest l = length l.rest
