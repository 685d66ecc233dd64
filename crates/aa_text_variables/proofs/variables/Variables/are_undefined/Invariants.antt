use Rattle.std.proofs.Common.{◌≡◌, drop}
use Rattle.std.specs.List.{list_any}
use Rattle.aa_text_variables.specs.Variables.{names_undefined}
use Rattle.aa_text_variables.proofs.variables.Variables.are_undefined.Given as goal

-- the words so far name nothing undefined
abbrev pub invariant-loop-word : goal.invariant-loop-word
invariant-loop-word l = list_any (names_undefined l.self) (drop l.word-index l.words) ≡ list_any (names_undefined l.self) l.words
