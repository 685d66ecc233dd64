-- What holds of each name in a text, and what code returns for names.
use Rattle.std.specs.Prelude.{ℕ, ◌≡◌, List, [], ◌∷◌}
use Rattle.std.specs.List.{AllByRecursion}
use Rattle.aa_text_expansion.specs.Parts.{Part, Byte, Name, Unclosed, parts}

-- each name among parts is such
abbrev pub EachName : (List ℕ → Type 0) → List Part → Type 0
EachName IsSuch [] = Unit
EachName IsSuch (Byte b ∷ ps) = EachName IsSuch ps
EachName IsSuch (Name name ∷ ps) = IsSuch name × EachName IsSuch ps
EachName IsSuch (Unclosed ∷ ps) = Unit

-- each name in a text is such
abbrev pub EachNameIn : (List ℕ → Type 0) → List ℕ → Type 0
EachNameIn IsSuch text = EachName IsSuch (parts text)

-- each name in some words is such
abbrev pub EachNameWithin : (List ℕ → Type 0) → List (List ℕ) → Type 0
EachNameWithin IsSuch words = AllByRecursion (EachNameIn IsSuch) words

-- the calls of a function in code return for each name what one in definitions gives
abbrev pub Answers : {A : Type 0} → (List ℕ → A → Type 0) → (List ℕ → A) → Type 0
Answers {A} answers function = (name : List ℕ) (answer : A) → answers name answer → answer ≡ function name
