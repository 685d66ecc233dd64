-- What a pattern keeps: a text that reads as a pattern, and two facts of its items.
use Rattle.std.specs.Prelude.{◌≡◌, ◌≤◌, ℕ, Bool, List, length, Ok}
use Rattle.aa_glob_syntax.specs.Exactness.{is_exact, literal_prefix}
use Rattle.aa_glob_syntax.specs.Reading.{items_of, longest, reading}

-- That the text isn't too long follows from its reading; it is kept because callers that go over a pattern's text need it.
abbrev pub AreFacts : Bool → ℕ → List ℕ → Type 0
AreFacts exact prefix text =
    (reading text ≡ Ok (items_of text))
    × (exact ≡ is_exact (items_of text))
    × (prefix ≡ literal_prefix (items_of text))
    × (length text ≤ longest)
