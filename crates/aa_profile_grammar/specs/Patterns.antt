-- The patterns of a file, as its tokens and its variables make them (docs/policy.md, "Variables" and "Patterns").
use Rattle.std.specs.List.{list_all}
use Rattle.std.specs.Option.{option_map}
use Rattle.std.specs.Prelude.{ℕ, ◌+◌, Bool, ◌&&◌, nat_le, is_none, if◌then◌else◌, List, [], ◌∷◌, length, map, Option, None, Some, Ok, Err}
use Rattle.aa_glob_syntax.specs.Reading.{longest, reading}
use Rattle.aa_glob_syntax.specs.Slashes.{collapsed}
use Rattle.aa_glob_syntax.specs.declared.pattern_error.PatternError.TheVariants.{TooLong}
use Rattle.aa_profile_parsing.specs.Tokens.{place_of, text_of}
use Rattle.aa_text_tokens.specs.Splicing.{Placed}
use Rattle.aa_text_variables.specs.Expansions.{expansion_refusal, expansions}
use Rattle.aa_text_variables.specs.Variables.{Variable}
use Rattle.aa_profile_grammar.specs.Limits.{most_rules}
use Rattle.aa_profile_parsing.specs.ProfileError.{placed, refusal_of_pattern}
use Rattle.aa_profile_parsing.specs.declared.profile_error.ProfileError.{ProfileError}
use Rattle.aa_profile_parsing.specs.declared.profile_error.ProfileRefusal.{ProfileRefusal}
use Rattle.aa_profile_parsing.specs.declared.profile_error.ProfileRefusal.TheVariants.{Pattern, TooManyRules}

-- none of the tokens leads to a name that isn't defined, or to a cycle
abbrev pub have_expansions : List Variable → List Placed → Bool
have_expansions variables tokens = list_all (λ token. is_none (expansion_refusal variables (text_of token))) tokens

-- a token has expansions, and no more than a file may have patterns
abbrev pub is_counted : List Variable → Placed → Bool
is_counted variables token = is_none (expansion_refusal variables (text_of token)) && nat_le (length (expansions variables (text_of token))) most_rules

-- each of some tokens has expansions, and no more than a file may have patterns
abbrev pub are_counted : List Variable → List Placed → Bool
are_counted variables tokens = list_all (is_counted variables) tokens

-- The first pattern with which a file has too many, where the tokens before make so many: a token makes one pattern for each of its expansions.
abbrev pub too_many : List Variable → ℕ → List Placed → Option Placed
too_many variables before [] = None
too_many variables before (token ∷ tokens) =
    let patterns = before + length (expansions variables (text_of token)) in
    if nat_le patterns most_rules then too_many variables patterns tokens else Some token

-- the refusal of that token, with its place
abbrev pub over_limit : List Variable → List Placed → Option ProfileError
over_limit variables tokens = option_map (λ token. placed TooManyRules (place_of token)) (too_many variables 0 tokens)

-- The refusal of an expansion that is no pattern: runs of slashes are collapsed before it is read. Its length is counted before that.
abbrev pub refusal_of_expansion : List ℕ → Option ProfileRefusal
refusal_of_expansion text =
    if nat_le (length text) longest
    then elim (reading (collapsed text)) [ Ok items ↦ None | Err error ↦ Some (refusal_of_pattern error) ]
    else Some (Pattern TooLong)

-- the refusal of the first of some expansions that is no pattern
abbrev pub refusal_of_expansions : List (List ℕ) → Option ProfileRefusal
refusal_of_expansions [] = None
refusal_of_expansions (text ∷ texts) = elim (refusal_of_expansion text) [ Some refusal ↦ Some refusal | None ↦ refusal_of_expansions texts ]

-- the refusal of a token of which some expansion is no pattern, at this token
abbrev pub refusal_of_token : List Variable → Placed → Option ProfileError
refusal_of_token variables token = option_map (λ refusal. placed refusal (place_of token)) (refusal_of_expansions (expansions variables (text_of token)))

-- the refusal of the first such token
abbrev pub first_bad : List Variable → List Placed → Option ProfileError
first_bad variables [] = None
first_bad variables (token ∷ tokens) = elim (refusal_of_token variables token) [ Some refusal ↦ Some refusal | None ↦ first_bad variables tokens ]

-- the patterns of a token, as texts
abbrev pub patterns_at : List Variable → Placed → List (List ℕ)
patterns_at variables token = map collapsed (expansions variables (text_of token))
