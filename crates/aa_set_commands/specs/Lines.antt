-- The lines of an input (docs/commands.md).
use Rattle.std.specs.Prelude.{ℕ, Bool, ◌==◌, if◌then◌else◌, List, [], ◌∷◌}
use Rattle.std.specs.List.{slice_split}
use Rattle.aa_bytes.specs.Bytes.{line_feed}
use Rattle.aa_bytes.specs.Texts.{is_empty}

abbrev pub is_line_feed : ℕ → Bool
is_line_feed b = b == line_feed

-- texts without the last one if it is empty
abbrev pub without_empty_last : List (List ℕ) → List (List ℕ)
without_empty_last [] = []
without_empty_last (text ∷ []) = if is_empty text then [] else text ∷ []
without_empty_last (text ∷ next ∷ texts) = text ∷ without_empty_last (next ∷ texts)

-- the lines of an input: what is between its line feeds, the last one only where it isn't empty
abbrev pub lines : List ℕ → List (List ℕ)
lines input = without_empty_last (slice_split is_line_feed input)

-- texts without the last one
abbrev pub without_last : List (List ℕ) → List (List ℕ)
without_last [] = []
without_last (text ∷ []) = []
without_last (text ∷ next ∷ texts) = text ∷ without_last (next ∷ texts)

-- the whole lines of an input: those that a line feed ends
abbrev pub whole_lines : List ℕ → List (List ℕ)
whole_lines input = without_last (slice_split is_line_feed input)
