-- Which paths a question is about.
use Rattle.std.specs.Prelude.{ℕ, Bool, not, ◌&&◌, List, [], ◌∷◌, codes}
use Rattle.std.specs.List.{list_any}
use Rattle.aa_glob_syntax.specs.Matching.{matches}
use Rattle.aa_glob_syntax.specs.Reading.{items_of}

-- one of some patterns matches a path
abbrev pub is_matched : List (List ℕ) → List ℕ → Bool
is_matched patterns path = list_any (λ pattern. matches (items_of pattern) path) patterns

-- The patterns of the paths that the kernel never asks about: it has made one slash of two, and resolved `.` and `..`.
abbrev pub unasked_patterns : List (List ℕ)
unasked_patterns = codes "//{,**}" ∷ codes "/{,**}//{,**}" ∷ codes "/{,**/}.{,.}{,/{,**}}" ∷ []

-- the kernel may ask about a path
abbrev pub may_be_asked : List ℕ → Bool
may_be_asked path = not (is_matched unasked_patterns path)

-- a question by some patterns is about a path
abbrev pub is_meant : List (List ℕ) → List ℕ → Bool
is_meant patterns path = is_matched patterns path && may_be_asked path
