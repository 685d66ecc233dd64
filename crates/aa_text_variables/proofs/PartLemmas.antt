-- What a text's parts say of variables.
use Rattle.std.proofs.Common.{◌≡◌, ℕ, suc, Bool, true, false, not, List, [], ◌∷◌, refl, ap, ◌∙◌}
use Rattle.std.specs.Prelude.{Option, None, Some, is_some, option_map}
use Rattle.std.specs.List.{list_any}
use Rattle.std.specs.Str.{bytes_eq}
use Rattle.aa_text_expansion.specs.Missing.{have_missing, is_missing}
use Rattle.aa_text_expansion.specs.Parts.{Part, Byte, Name, Unclosed, parts}
use Rattle.aa_text_variables.specs.Variables.{Variable, is_defined, is_undefined, names_undefined}
use Rattle.aa_text_variables.specs.code.VariableIndexes.{index_of}

-- a name with no index
abbrev pub has_no_index : List Variable → List ℕ → Bool
has_no_index variables name = not (is_some (index_of variables name))

-- is that of no variable
no-index : (variables : List Variable) (name : List ℕ) → has_no_index variables name ≡ not (is_defined name variables)
no-index [] name = refl
no-index (variable ∷ variables) name = by (bytes_eq name variable.name) refl (no-index variables name)
  where
    next : (found : Option ℕ) → is_some (option_map suc found) ≡ is_some found
    next None = refl
    next (Some index) = refl

    by : (b : Bool) → bytes_eq name variable.name ≡ b → has_no_index variables name ≡ not (is_defined name variables) → has_no_index (variable ∷ variables) name ≡ not (is_defined name (variable ∷ variables))
    by true b rest = rw b refl
    by false b rest = rw b (ap not (next (index_of variables name)) ∙ rest)

-- so an undefined part is one that is missing
pub missing-undefined : (variables : List Variable) (ps : List Part) → list_any (is_missing (has_no_index variables)) ps ≡ list_any (is_undefined variables) ps
missing-undefined variables [] = refl
missing-undefined variables (Byte b ∷ ps) = missing-undefined variables ps
missing-undefined variables (Name name ∷ ps) = rw (no-index variables name, missing-undefined variables ps) refl
missing-undefined variables (Unclosed ∷ ps) = refl

-- the same of words
pub words-undefined : (variables : List Variable) (words : List (List ℕ)) → have_missing (has_no_index variables) words ≡ list_any (names_undefined variables) words
words-undefined variables [] = refl
words-undefined variables (word ∷ words) = rw (missing-undefined variables (parts word), words-undefined variables words) refl
