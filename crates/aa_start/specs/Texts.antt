-- Texts as lists of bytes.
use Rattle.std.specs.Prelude.{ℕ, List, map, Vec, String, string_bytes}
use Rattle.std.specs.Borrow.{Bor}

-- the texts of a vector of strings
abbrev pub texts : {A B : Type 0} → Vec (String A) B → List (List ℕ)
texts names = map string_bytes names.items

-- the texts that are borrowed
abbrev pub words_of : List (Bor (List ℕ)) → List (List ℕ)
words_of words = map (λ word. word.now) words
