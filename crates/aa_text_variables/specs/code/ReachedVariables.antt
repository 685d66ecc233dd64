-- The variables that a text leads to, as the code collects them: a list of indices, each of which is looked at in turn.
use Rattle.std.specs.Prelude.{ℕ, Bool, suc, true, false, ◌≡◌, ◌+◌, ◌<◌, ◌≤◌, nat_eq, List, length, slice_get, Some}
use Rattle.std.specs.List.{list_any, IsDistinct}
use Rattle.aa_text_expansion.specs.Numbers.{numbers_in, numbers_of, numbers_within}
use Rattle.aa_text_expansion.specs.Parts.{Part}
use Rattle.aa_text_variables.specs.Variables.{Variable, names_undefined}
use Rattle.aa_text_variables.specs.Expansions.{leads_to_undefined_within}
use Rattle.aa_text_files.specs.declared.text_error.TextRefusal.{TextRefusal}
use Rattle.aa_text_files.specs.declared.text_error.TextRefusal.TheVariants.{Undefined}
use Rattle.aa_text_variables.specs.code.VariableIndexes.{index_of, words_at}

-- the indices of the variables that parts name, as far as they are defined
abbrev pub indexes_of : List Variable → List Part → List ℕ
indexes_of variables ps = numbers_of (index_of variables) ps

-- the indices of the variables that a text names
abbrev pub indexes_in : List Variable → List ℕ → List ℕ
indexes_in variables text = numbers_in (index_of variables) text

-- the indices of the variables that texts name
abbrev pub indexes_within : List Variable → List (List ℕ) → List ℕ
indexes_within variables texts = numbers_within (index_of variables) texts

-- a refusal says that something undefined was found, and it was
abbrev pub SaysUndefined : TextRefusal → Bool → Type 0
SaysUndefined refusal found = (refusal ≡ Undefined) × (found ≡ true)

-- What is known of the collected indices once the words of the first so many were looked at.
pub record IsReachedSoFar (variables : List Variable) (text : List ℕ) (reached : List ℕ) (at : ℕ) : Type 0 where
  -- what the text names is collected
  pub named : (index : ℕ) → list_any (nat_eq index) (indexes_in variables text) ≡ true → list_any (nat_eq index) reached ≡ true
  -- what the words name that were looked at is collected
  pub closed : (before of index : ℕ) → before < at → slice_get reached before ≡ Some of → list_any (nat_eq index) (indexes_within variables (words_at variables of)) ≡ true
      → list_any (nat_eq index) reached ≡ true
  -- the text itself names nothing undefined
  pub start : names_undefined variables text ≡ false
  -- the words that were looked at name nothing undefined
  pub fine : (before of : ℕ) → before < at → slice_get reached before ≡ Some of → list_any (names_undefined variables) (words_at variables of) ≡ false
  -- the collected indices are those of variables
  pub below : (index : ℕ) → list_any (nat_eq index) reached ≡ true → index < length variables
  -- no two of them are the same
  pub distinct : IsDistinct nat_eq reached
  -- no more were looked at than there are
  pub within : at ≤ length reached
  -- the text leads to the words of each, through no more variables than come before it
  pub led : (before of depth : ℕ) → slice_get reached before ≡ Some of → list_any (leads_to_undefined_within variables depth) (words_at variables of) ≡ true
      → leads_to_undefined_within variables (suc (before + depth)) text ≡ true
