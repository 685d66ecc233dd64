-- Marks of the code.
use Rattle.std.specs.Prelude.{ℕ, List, map}
use Rattle.aa_history.specs.declared.marks.Mark.{Mark}

-- each name with its number, in the same order
abbrev pub seen_marks : List Mark → List (List ℕ × ℕ)
seen_marks marks = map (λ mark. (mark.name.items, mark.number)) marks
