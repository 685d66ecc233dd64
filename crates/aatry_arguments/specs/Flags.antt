-- Words that are flags, wherever they are among the other words.
use Rattle.std.specs.Prelude.{ℕ, Bool, false, ◌||◌, if◌then◌else◌, List, [], ◌∷◌}
use Rattle.std.specs.Str.{bytes_eq}
use Rattle.aatry_arguments.specs.Languages.{ends_options}

-- one of some words is this flag, before the first `--`
abbrev pub is_given : List ℕ → List (List ℕ) → Bool
is_given flag [] = false
is_given flag (word ∷ words) = if ends_options word then false else bytes_eq word flag || is_given flag words

-- the words without those that are this flag, before the first `--`
abbrev pub without_flag : List ℕ → List (List ℕ) → List (List ℕ)
without_flag flag [] = []
without_flag flag (word ∷ words) =
    if ends_options word then word ∷ words else if bytes_eq word flag then without_flag flag words else word ∷ without_flag flag words
