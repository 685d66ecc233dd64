-- What the code cuts off a line at once.
use Rattle.std.specs.Prelude.{ℕ, ◌≡◌, List, [], ◌∷◌, Option, Some, MatchOption}
use Rattle.std.specs.Borrow.{Bor}
use Rattle.std.specs.Option.{option_map}
use Rattle.aa_set_commands.specs.Words.{words_of}

-- the first word of a line, and what follows it, or nothing where blanks alone are left
abbrev pub IsFirstWord : List ℕ → Option (Bor (List ℕ) × Bor (List ℕ)) → Type 0
IsFirstWord line first = MatchOption first
    (words_of line ≡ Some [])
    (λ found. words_of line ≡ option_map (λ words. found.0.now ∷ words) (words_of found.1.now))
