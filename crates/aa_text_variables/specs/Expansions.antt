-- Expansions: what the names in a text lead to, and the texts that result from choosing values (apparmor.d(5), "Variables"; see docs/policy.md,
-- "Variables").
use Rattle.std.specs.Prelude.{ℕ, zero, suc, Bool, true, ◌||◌, List, [], ◌∷◌, ◌++◌, length, flat_map, Option, None, Some, if◌then◌else◌}
use Rattle.std.specs.List.{list_any}
use Rattle.aa_text_expansion.specs.Choices.{choices}
use Rattle.aa_text_expansion.specs.Parts.{Part, Byte, Name, Unclosed, parts}
use Rattle.aa_text_variables.specs.Variables.{Variable, named, names_undefined}
use Rattle.aa_text_files.specs.declared.text_error.TextRefusal.{TextRefusal}
use Rattle.aa_text_files.specs.declared.text_error.TextRefusal.TheVariants.{Undefined, Cycle}

-- the words of a variable: those of its first `=`, then those that were appended
abbrev pub words_of : Variable → List (List ℕ)
words_of variable = variable.defined ++ variable.added

-- the words of a name's variable, none where it isn't defined
abbrev pub words_named : List Variable → List ℕ → List (List ℕ)
words_named variables name = elim (named name variables) [
  | None ↦ []
  | Some variable ↦ words_of variable
]

-- the words of the variables that a text names
abbrev pub words_behind_parts : List Variable → List Part → List (List ℕ)
words_behind_parts variables [] = []
words_behind_parts variables (Byte b ∷ ps) = words_behind_parts variables ps
words_behind_parts variables (Name name ∷ ps) = words_named variables name ++ words_behind_parts variables ps
words_behind_parts variables (Unclosed ∷ ps) = words_behind_parts variables ps

abbrev pub words_behind : List Variable → List ℕ → List (List ℕ)
words_behind variables text = words_behind_parts variables (parts text)

-- The values of a variable: the expansions of its words, in order, where each name leads through so many variables at most.
abbrev pub values_within : List Variable → ℕ → List ℕ → List (List ℕ)
values_within variables zero name = []
values_within variables (suc depth) name = flat_map (λ word. choices (values_within variables depth) (parts word)) (words_named variables name)

-- A name that leads to no cycle leads through each variable once at most.
abbrev pub values : List Variable → List ℕ → List (List ℕ)
values variables name = values_within variables (length variables) name

-- the expansions of a text
abbrev pub expansions : List Variable → List ℕ → List (List ℕ)
expansions variables text = choices (values variables) (parts text)

-- a text names a variable that isn't defined, or leads to a word that does, through so many variables at most
abbrev pub leads_to_undefined_within : List Variable → ℕ → List ℕ → Bool
leads_to_undefined_within variables zero text = names_undefined variables text
leads_to_undefined_within variables (suc depth) text =
    names_undefined variables text || list_any (leads_to_undefined_within variables depth) (words_behind variables text)

abbrev pub leads_to_undefined : List Variable → List ℕ → Bool
leads_to_undefined variables text = leads_to_undefined_within variables (length variables) text

-- So many variables form a chain: the text names the first, and a word of each names the next.
abbrev pub has_chain : List Variable → ℕ → List ℕ → Bool
has_chain variables zero text = true
has_chain variables (suc size) text = list_any (has_chain variables size) (words_behind variables text)

-- A text leads to a variable that leads to itself. Then a chain may have any length; and one of more variables than there are has one of them twice.
abbrev pub leads_to_cycle : List Variable → List ℕ → Bool
leads_to_cycle variables text = has_chain variables (suc (length variables)) text

-- a variable leads to itself, or to one that does
abbrev pub is_cyclic : List Variable → Variable → Bool
is_cyclic variables variable = list_any (has_chain variables (length variables)) (words_of variable)

-- why a text has no expansions
abbrev pub expansion_refusal : List Variable → List ℕ → Option TextRefusal
expansion_refusal variables text =
    if leads_to_undefined variables text then Some Undefined else
    if leads_to_cycle variables text then Some Cycle else
    None
