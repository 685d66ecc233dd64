use Rattle.std.proofs.Common.{◌≡◌, drop}
use Rattle.std.specs.List.{list_any}
use Rattle.aa_text_variables.specs.code.HeldValues.{names_undefined_at}
use Rattle.aa_text_variables.proofs.variables.Variables.some_undefined.Given as goal

-- the words of the indexes so far name nothing undefined
abbrev pub invariant-loop-index : goal.invariant-loop-index
invariant-loop-index l = list_any (names_undefined_at l.self) (drop l.index-index l.indexes) ≡ list_any (names_undefined_at l.self) l.indexes
