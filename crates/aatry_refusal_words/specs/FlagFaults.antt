-- The unknown flag in the token of FLAGS that holds it (docs/policy.md, "Flags").
use Rattle.std.specs.Prelude.{ℕ, Bool, not, ◌==◌, ◌&&◌, codes, drop, find, if◌then◌else◌, is_ok, length, List, [], ◌∷◌, ◌++◌, Option}
use Rattle.std.specs.List.{prefix_len, slice_split}
use Rattle.aa_bytes.specs.Bytes.{closing_parenthesis, opening_parenthesis}
use Rattle.aa_bytes.specs.Texts.{has_byte, is_empty}
use Rattle.aa_profile_parsing.specs.Flags.{flags, separates}
use Rattle.aa_profile_parsing.specs.IdleFlags.{up_to_parenthesis}
use Rattle.aa_profile_parsing.specs.declared.language.Language.{Language}
use Rattle.aa_text_tokens.specs.Splicing.{Placed}
use Rattle.aa_text_tokens.specs.declared.cut.TokenKind.{TokenKind}
use Rattle.aa_text_tokens.specs.declared.cut.TokenKind.TheVariants.{OpenBrace, Word}

-- what follows the first `(` of a text, or the whole text where it has none
abbrev pub behind_parenthesis : List ℕ → List ℕ
behind_parenthesis text =
    if has_byte opening_parenthesis text then drop 1 (drop (prefix_len (λ b. not (b == opening_parenthesis)) text) text) else text

-- the list of flags in a token of FLAGS: what is between the parentheses
abbrev pub flag_list : List ℕ → List ℕ
flag_list text = up_to_parenthesis (behind_parenthesis text)

-- a token with a text of its own
abbrev pub token_of : TokenKind → List ℕ → Placed
token_of kind text = record { file = 0; token = record { kind = kind; text = text; start = 0; end = length text } }

-- FLAGS with this text are read: a block begins after them
abbrev pub are_read : Language → List ℕ → Bool
are_read language text = is_ok (flags language (token_of Word text ∷ token_of OpenBrace (codes "{") ∷ []))

-- the list with only one word
abbrev pub list_of : List ℕ → List ℕ
list_of word = opening_parenthesis ∷ (word ++ closing_parenthesis ∷ [])

-- a word is a flag: FLAGS that have it alone are read
abbrev pub is_flag : Language → List ℕ → Bool
is_flag language word = are_read language (list_of word)

-- a word isn't empty, and no flag
abbrev pub is_unknown : Language → List ℕ → Bool
is_unknown language word = not (is_empty word) && not (is_flag language word)

-- the first of some words that is no flag
abbrev pub first_unknown : Language → List (List ℕ) → Option (List ℕ)
first_unknown language words = find (is_unknown language) words

-- the first unknown flag in a token of FLAGS
abbrev pub unknown_flag : Language → List ℕ → Option (List ℕ)
unknown_flag language text = first_unknown language (slice_split separates (flag_list text))
