-- Definitions for the laws of expansions.
use Rattle.std.specs.Prelude.{ℕ, ◌≡◌, ◌<◌, Bool, true, false, List, length, flat_map, None, Some}
use Rattle.std.specs.List.{list_all, list_any}
use Rattle.std.specs.Str.{bytes_eq}
use Rattle.aa_text_expansion.specs.Choices.{choice_count}
use Rattle.aa_text_expansion.specs.Parts.{Part, Byte, Name, parts}
use Rattle.aa_text_variables.specs.Expansions.{expansion_refusal, expansions, is_cyclic, leads_to_undefined, values, words_of}
use Rattle.aa_text_variables.specs.Variables.{Variable, named, names_undefined}

-- a part stands for itself
abbrev pub is_byte : Part → Bool
is_byte (Byte b) = true
is_byte part = false

-- a text names no variable and opens no name
abbrev pub names_nothing : List ℕ → Bool
names_nothing text = list_all is_byte (parts text)

-- a part names the variable of this name
abbrev pub is_name : List ℕ → Part → Bool
is_name name (Name other) = bytes_eq name other
is_name name part = false

-- a text names the variable of this name
abbrev pub names_variable : List ℕ → List ℕ → Bool
names_variable text name = list_any (is_name name) (parts text)

-- no name in the words of variables is left open, or isn't defined
abbrev pub AreWordsDefined : List Variable → Type 0
AreWordsDefined variables = list_any (names_undefined variables) (flat_map words_of variables) ≡ false

-- a text leads to a name that isn't defined, or isn't closed, only if it names one itself
abbrev pub FindsUndefinedAtOnce : List Variable → List ℕ → Type 0
FindsUndefinedAtOnce variables text = names_undefined variables text ≡ false → leads_to_undefined variables text ≡ false

-- the product of the counts of the values of a text's names
abbrev pub value_product : List Variable → List ℕ → ℕ
value_product variables text = choice_count (λ name. length (values variables name)) (parts text)

-- the values of a name's variable are the expansions of its words, in order, unless the variable leads to itself
abbrev pub AreExpandedWords : List Variable → List ℕ → Type 0
AreExpandedWords variables name =
    (variable : Variable) → named name variables ≡ Some variable → is_cyclic variables variable ≡ false
    → values variables name ≡ flat_map (expansions variables) (words_of variable)

-- each name in a text has the same values by one list of variables as by another
abbrev pub Agree : List Variable → List Variable → List ℕ → Type 0
Agree variables others text = (name : List ℕ) → names_variable text name ≡ true → values variables name ≡ values others name

-- a text that isn't refused has an expansion
abbrev pub ExpandsUnlessRefused : List Variable → List ℕ → Type 0
ExpandsUnlessRefused variables text = expansion_refusal variables text ≡ None → 0 < length (expansions variables text)
