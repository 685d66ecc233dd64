-- Bytes of a pattern's text that stand for themselves.
use Rattle.std.specs.Prelude.{ℕ, Bool, ◌==◌, ◌||◌, not, List, [], ◌∷◌}
use Rattle.aa_bytes.specs.Bytes.{backslash, closing_brace, comma, opening_brace, opening_bracket, question_mark, star}
use Rattle.aa_glob_syntax.specs.Elements.{Element, Single}
use Rattle.aa_glob_syntax.specs.Items.{Byte}

-- A byte stands for itself outside classes, and where no backslash comes before it. (A comma does too where no group is
-- open; it isn't taken for one here, since it may be a group's.)
abbrev pub is_literal : ℕ → Bool
is_literal b =
    not (b == star || (b == opening_bracket || (b == question_mark || (b == opening_brace || (b == comma || (b == closing_brace || b == backslash))))))

-- such bytes as elements
abbrev pub literals : List ℕ → List Element
literals [] = []
literals (b ∷ bs) = Single (Byte b) ∷ literals bs
