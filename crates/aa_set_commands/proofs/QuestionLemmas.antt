-- Words of questions, as they are told apart.
use Rattle.std.proofs.Common.{◌≡◌, ℕ, Bool, true, false, not, List, refl, sym, ap, ◌∙◌}
use Rattle.std.specs.Str.{bytes_eq}

not-false : (b : Bool) → false ≡ not b → b ≡ true
not-false true h = refl
not-false false h = absurd (cc)

-- a word that isn't found to differ from a name is that name
pub word-is : (word slice name : List ℕ) → slice ≡ name → false ≡ not (bytes_eq word slice) → bytes_eq word name ≡ true
word-is word slice name is h = ap (bytes_eq word) (sym is) ∙ not-false (bytes_eq word slice) h
