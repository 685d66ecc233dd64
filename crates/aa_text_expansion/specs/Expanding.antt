-- Texts and words whose names are replaced by values: the numbers of lists of all results.
use Rattle.std.specs.Prelude.{ℕ, ◌≡◌, ◌<◌, List, [], length, Option, None, Some}
use Rattle.aa_text_expansion.specs.Choices.{choices, choices_within}
use Rattle.aa_text_expansion.specs.Joining.{cut_off}
use Rattle.aa_text_expansion.specs.Lists.{AreKept, list_at}
use Rattle.aa_text_expansion.specs.Names.{EachNameIn, EachNameWithin}
use Rattle.aa_text_expansion.specs.Parts.{parts}

-- the values that lists hold for a name, by the number of its list; none where it has no list
abbrev pub held : List (List (List ℕ)) → (List ℕ → Option ℕ) → List ℕ → List (List ℕ)
held lists numbers name = elim (numbers name) [
  | None ↦ []
  | Some number ↦ list_at lists number
]

-- there is a list of each number that a name has
abbrev pub AreThere : List (List (List ℕ)) → (List ℕ → Option ℕ) → Type 0
AreThere lists numbers = (name : List ℕ) (number : ℕ) → numbers name ≡ Some number → number < length lists

-- the values held for a name are its values, as far as texts are kept
abbrev pub AreCutOff : (List ℕ → List (List ℕ)) → (List ℕ → List (List ℕ)) → List ℕ → Type 0
AreCutOff holds values name = cut_off (holds name) ≡ cut_off (values name)

-- A number is that of a list of all choices of values for the names of a text, where their values are held; and the lists before are kept.
pub record Expands (before : List (List (List ℕ))) (numbers : List ℕ → Option ℕ) (text : List ℕ) (number : ℕ) (after : List (List (List ℕ))) : Type 0 where
  pub kept : AreKept before after
  pub within : number < length after
  pub value : (values : List ℕ → List (List ℕ)) → EachNameIn (AreCutOff (held before numbers) values) text → cut_off (list_at after number) ≡ cut_off (choices values (parts text))

-- A number is that of a list of all choices of values for the names of words, those of one word after those of the one before; and the lists before
-- are kept.
pub record ExpandsWords (before : List (List (List ℕ))) (numbers : List ℕ → Option ℕ) (words : List (List ℕ)) (number : ℕ) (after : List (List (List ℕ))) : Type 0 where
  pub kept : AreKept before after
  pub within : number < length after
  pub value : (values : List ℕ → List (List ℕ)) → EachNameWithin (AreCutOff (held before numbers) values) words → cut_off (list_at after number) ≡ cut_off (choices_within values words)
