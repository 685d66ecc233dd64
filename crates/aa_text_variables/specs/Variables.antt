-- Variables: what they hold, and which of them a text names (apparmor.d(5), "Variables"; see docs/policy.md, "Variables").
use Rattle.std.specs.Prelude.{ℕ, Bool, true, false, not, ◌&&◌, if◌then◌else◌, List, [], ◌∷◌, ◌++◌, find, Option, None, Some, is_some, Result, Ok, Err}
use Rattle.std.specs.List.{list_all, list_any}
use Rattle.std.specs.Str.{bytes_eq}
use Rattle.aa_bytes.specs.Texts.{is_empty}
use Rattle.aa_text_expansion.specs.Parts.{Part, Byte, Name, Unclosed, parts}
use Rattle.aa_text_files.specs.declared.text_error.TextRefusal.{TextRefusal}
use Rattle.aa_text_files.specs.declared.text_error.TextRefusal.TheVariants.{Redefined, AppendUndefined}

-- A variable: its name, the values of its first `=`, and those that were appended.
pub record Variable : Type 0 where
  pub name : List ℕ
  pub defined : List (List ℕ)
  pub added : List (List ℕ)

-- the variable of a name
abbrev pub named : List ℕ → List Variable → Option Variable
named name variables = find (λ variable. bytes_eq name variable.name) variables

abbrev pub is_defined : List ℕ → List Variable → Bool
is_defined name variables = is_some (named name variables)

-- no two variables have one name
abbrev pub have_distinct_names : List Variable → Bool
have_distinct_names [] = true
have_distinct_names (variable ∷ variables) = not (is_defined variable.name variables) && have_distinct_names variables

-- a variable has at least one word, which its `=` gave it
abbrev pub has_word : Variable → Bool
has_word variable = not (is_empty variable.defined)

-- What any `=` and `+=` make, beginning with no variables: no name comes twice, and each variable has a word.
abbrev pub are_variables : List Variable → Bool
are_variables variables = have_distinct_names variables && list_all has_word variables

-- two lists of texts are equal
abbrev pub same_texts : List (List ℕ) → List (List ℕ) → Bool
same_texts [] [] = true
same_texts (text ∷ texts) (other ∷ others) = bytes_eq text other && same_texts texts others
same_texts _ _ = false

-- `=` defines a variable; a second one has no effect where its values are those of the first, and is refused where they aren't.
abbrev pub after_define : List Variable → List ℕ → List (List ℕ) → Result (List Variable) TextRefusal
after_define variables name words = elim (named name variables) [
  | None ↦ Ok (variables ++ record { name = name; defined = words; added = [] } ∷ [])
  | Some variable ↦ if same_texts words variable.defined then Ok variables else Err Redefined
]

-- values appended to those of a name's variable
abbrev pub with_added : List ℕ → List (List ℕ) → List Variable → List Variable
with_added name words [] = []
with_added name words (variable ∷ variables) =
    if bytes_eq name variable.name
    then record { name = variable.name; defined = variable.defined; added = variable.added ++ words } ∷ variables
    else variable ∷ with_added name words variables

-- `+=` appends values to those that are there; it requires an earlier `=`.
abbrev pub after_append : List Variable → List ℕ → List (List ℕ) → Result (List Variable) TextRefusal
after_append variables name words = if is_defined name variables then Ok (with_added name words variables) else Err AppendUndefined

-- a part for which there is no variable
abbrev pub is_undefined : List Variable → Part → Bool
is_undefined variables (Byte b) = false
is_undefined variables (Name name) = not (is_defined name variables)
is_undefined variables Unclosed = true

-- a text itself names a variable that isn't defined, or doesn't close a name
abbrev pub names_undefined : List Variable → List ℕ → Bool
names_undefined variables text = list_any (is_undefined variables) (parts text)
