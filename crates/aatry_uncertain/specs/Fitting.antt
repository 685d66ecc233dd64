-- Whether a path may fit an attachment as it is written, whatever its variables hold.
use Rattle.std.specs.Prelude.{ℕ, Bool, true, false, not, ◌==◌, ◌&&◌, if◌then◌else◌, List, [], ◌∷◌, ◌++◌, Option, None, Some, Result, Ok, Err, codes}
use Rattle.aa_bytes.specs.Bytes.{at_sign, closing_brace, opening_brace, slash}
use Rattle.aa_bytes.specs.Texts.{begins_with_byte}
use Rattle.aa_glob_syntax.specs.Matching.{matches}
use Rattle.aa_glob_syntax.specs.Reading.{reading}
use Rattle.aa_glob_syntax.specs.Items.{Pattern}
use Rattle.aa_glob_syntax.specs.declared.pattern_error.PatternError.{PatternError}

-- a text with a pattern that matches everything in place of each variable; within one, whose name is left out, or not
abbrev pub without_variables : Bool → List ℕ → List ℕ
without_variables within [] = []
without_variables true (b ∷ bs) = without_variables (not (b == closing_brace)) bs
without_variables false (b ∷ bs) =
    if b == at_sign && begins_with_byte opening_brace bs then codes "{,**}" ++ without_variables true bs else b ∷ without_variables false bs

-- that text as a pattern, which begins with a slash
abbrev pub widened : List ℕ → List ℕ
widened text = (if begins_with_byte at_sign text then slash ∷ [] else []) ++ without_variables false text

-- a path fits what reads as a pattern that matches it; of what doesn't read, nothing is known
abbrev pub fits_by : List ℕ → Result Pattern PatternError → Bool
fits_by path (Ok items) = matches items path
fits_by path (Err error) = false

-- a path may fit an attachment, if there is one
abbrev pub may_fit : Option (List ℕ) → List ℕ → Bool
may_fit None path = false
may_fit (Some text) path = fits_by path (reading (widened text))
