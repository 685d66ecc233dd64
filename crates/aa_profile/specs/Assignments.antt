-- The variables of a file: what its assignments define, and which of them are refused (docs/policy.md, "Variables").
use Rattle.std.specs.Prelude.{ℕ, Bool, if◌then◌else◌, List, [], ◌∷◌, ◌++◌, map, find, Option, None, Some, Result, Ok, Err}
use Rattle.std.specs.List.{flat_map}
use Rattle.std.specs.Option.{option_map}
use Rattle.std.specs.Str.{bytes_eq}
use Rattle.aa_bytes.specs.Texts.{is_empty}
use Rattle.aa_text_variables.specs.Expansions.{is_cyclic}
use Rattle.aa_text_tokens.specs.Splicing.{Placed}
use Rattle.aa_text_variables.specs.Variables.{Variable, after_append, after_define, names_undefined}
use Rattle.aa_text_files.specs.declared.text_error.TextRefusal.{TextRefusal}
use Rattle.aa_text_files.specs.declared.text_error.TextRefusal.TheVariants.{Cycle, Undefined}
use Rattle.aa_profile_grammar.specs.Preamble.{Assignment}
use Rattle.aa_profile_parsing.specs.Tokens.{place_of, text_of}
use Rattle.aa_profile_parsing.specs.ProfileError.{refusal_of_text, placed}
use Rattle.aa_profile_parsing.specs.declared.profile_error.ProfileError.{ProfileError}
use Rattle.aa_profile_parsing.specs.declared.profile_error.ProfileRefusal.TheVariants.{Text}

-- the variables after an assignment
abbrev pub assigned : List Variable → Assignment → Result (List Variable) TextRefusal
assigned variables assignment =
    if assignment.append
    then after_append variables (text_of assignment.sign) (map text_of assignment.values)
    else after_define variables (text_of assignment.sign) (map text_of assignment.values)

-- an assignment has no value
abbrev pub has_no_value : Assignment → Bool
has_no_value assignment = is_empty assignment.values

-- the variables after assignments in order, or the first refusal, at its assignment
abbrev pub all_assigned : List Variable → List Assignment → Result (List Variable) ProfileError
all_assigned variables [] = Ok variables
all_assigned variables (assignment ∷ assignments) = elim (assigned variables assignment) [
  | Err refusal ↦ Err (placed (refusal_of_text refusal) (place_of assignment.sign))
  | Ok next ↦ all_assigned next assignments
]

-- the tokens in which names of variables are looked up: the values of the assignments, then the patterns
abbrev pub naming : List Assignment → List Placed → List Placed
naming assignments patterns = flat_map (λ assignment. assignment.values) assignments ++ patterns

-- the first of these tokens that names a variable that isn't defined
abbrev pub first_undefined : List Variable → List Placed → Option Placed
first_undefined variables tokens = find (λ token. names_undefined variables (text_of token)) tokens

-- the refusal of that token, with its place
abbrev pub undefined_name : List Variable → List Assignment → List Placed → Option ProfileError
undefined_name variables assignments patterns =
    option_map (λ token. placed (Text Undefined) (place_of token)) (first_undefined variables (naming assignments patterns))

-- the first assignment of a variable
abbrev pub first_of : List ℕ → List Assignment → Option Assignment
first_of name assignments = find (λ assignment. bytes_eq name (text_of assignment.sign)) assignments

-- the refusal of the first variable that leads to itself or to one that does, at its first assignment
abbrev pub cycle : List Variable → List Assignment → Option ProfileError
cycle variables assignments =
    option_map (λ variable. record {
      refusal = Text Cycle;
      place = option_map (λ assignment. place_of assignment.sign) (first_of variable.name assignments);
    }) (find (is_cyclic variables) variables)

-- The variables of a file. All assignments are made before names are looked up, and these before cycles are looked for.
abbrev pub variables_of : List Assignment → List Placed → Result (List Variable) ProfileError
variables_of assignments patterns = elim (all_assigned [] assignments) [
  | Err refusal ↦ Err refusal
  | Ok variables ↦ elim (undefined_name variables assignments patterns) [
    | Some refusal ↦ Err refusal
    | None ↦ elim (cycle variables assignments) [ Some refusal ↦ Err refusal | None ↦ Ok variables ]
  ]
]
