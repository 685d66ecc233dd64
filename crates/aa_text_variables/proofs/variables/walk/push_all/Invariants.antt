use Rattle.std.proofs.Common.{◌≡◌, ◌++◌, map, take}
use Rattle.aa_text_variables.specs.declared.variables.walk.Task.TheVariants.{Enter}
use Rattle.aa_text_variables.proofs.variables.walk.push_all.Given as goal

-- the indexes so far were pushed
abbrev pub invariant-loop-index : goal.invariant-loop-index
invariant-loop-index l = l.tasks.items ≡ l.fn.tasks.items ++ map Enter (take l.index-index l.indexes)
