-- FLAGS as one text, and what their list says (apparmor.d(5), "Profile Flags"; docs/policy.md, "Flags"): definitions for the laws on flags.
use Rattle.std.specs.Prelude.{◌≡◌, ℕ, Bool, true, false, not, ◌==◌, ◌&&◌, ◌||◌, if◌then◌else◌, List, [], ◌∷◌, ◌++◌, take, drop, Option, None, Some, Ok, codes, is_some, MatchOption, IsErr}
use Rattle.std.specs.List.{filter, list_all, list_any, prefix_len, slice_split}
use Rattle.std.specs.Str.{bytes_eq}
use Rattle.aa_bytes.specs.Bytes.{backslash, closing_parenthesis, comma, equals, is_blank, opening_parenthesis, space}
use Rattle.aa_bytes.specs.Texts.{begins_with, begins_with_byte, is_empty}
use Rattle.aa_text_tokens.specs.Splicing.{Placed}
use Rattle.aa_text_tokens.specs.declared.cut.TokenKind.TheVariants.{Comma, Word}
use Rattle.aa_profile_parsing.specs.Parts.{Part}
use Rattle.aa_profile_parsing.specs.Tokens.{text_of}
use Rattle.aa_profile_parsing.specs.declared.language.Language.{Language}
use Rattle.aa_profile_parsing.specs.Flags.{is_idle, mode_flag, name_of_mode, separates, unflagged}
use Rattle.aa_profile_parsing.specs.declared.flags.Flags.{Flags}
use Rattle.aa_profile_parsing.specs.declared.flags.ModeFlag.{ModeFlag}
use Rattle.aa_profile_parsing.specs.declared.flags.ModeFlag.TheVariants.{Complain, DefaultAllow, Enforce, Unconfined}

-- each blank of a text follows a backslash, where this byte comes before the text
abbrev pub are_blanks_escaped : ℕ → List ℕ → Bool
are_blanks_escaped before [] = true
are_blanks_escaped before (b ∷ bs) = (not (is_blank b) || before == backslash) && are_blanks_escaped b bs

-- A token of which FLAGS are made, as texts are cut: a Word, which has at least one byte, and blanks only after backslashes, or a Comma.
abbrev pub is_flag_token : Placed → Bool
is_flag_token token = elim token.token.kind [
  | Word ↦ not (is_empty (text_of token)) && are_blanks_escaped 0 (text_of token)
  | Comma ↦ bytes_eq (text_of token) (comma ∷ [])
  | _ ↦ false
]

-- the text of tokens, each followed by a blank
abbrev pub spaced : List Placed → List ℕ
spaced [] = []
spaced (token ∷ tokens) = text_of token ++ space ∷ spaced tokens

-- the words of a list: what blanks and commas separate
abbrev pub words_of : List ℕ → List (List ℕ)
words_of text = filter (λ word. not (is_empty word)) (slice_split separates text)

-- the words after a separator, if there is one, the empty ones included
abbrev pub words_of_rest : Option (List ℕ) → List (List ℕ)
words_of_rest None = []
words_of_rest (Some rest) = slice_split separates rest

-- a word is among others
abbrev pub has_word : List ℕ → List (List ℕ) → Bool
has_word word words = list_any (λ other. bytes_eq other word) words

abbrev pub is_flag : Language → List ℕ → Bool
is_flag language word = is_some (mode_flag language word) || bytes_eq word (codes "audit") || is_idle language word

-- each of some words is among others
abbrev pub has_words : List (List ℕ) → List (List ℕ) → Bool
has_words words others = list_all (λ word. has_word word others) words

-- the mode flags
abbrev pub mode_flags : List ModeFlag
mode_flags = Enforce ∷ Complain ∷ Unconfined ∷ DefaultAllow ∷ []

-- the mode flags among words
abbrev pub modes_among : List (List ℕ) → List ModeFlag
modes_among words = filter (λ mode. has_word (name_of_mode mode) words) mode_flags

-- the one of some mode flags, or `None` inside where there is none: there may not be two
abbrev pub one_mode : List ModeFlag → Option (Option ModeFlag)
one_mode [] = Some None
one_mode (mode ∷ []) = Some (Some mode)
one_mode (mode ∷ other ∷ more) = None

-- What words say, wherever and however often each of them occurs: all have to be flags, without two different mode flags.
abbrev pub flags_of : Language → List (List ℕ) → Option Flags
flags_of language words =
    if list_all (is_flag language) words
    then elim (one_mode (modes_among words)) [ None ↦ None | Some mode ↦ Some (record { mode = mode; audit = has_word (codes "audit") words }) ]
    else None

-- what follows the blanks with which a text begins
abbrev pub behind_blanks : List ℕ → List ℕ
behind_blanks [] = []
behind_blanks (b ∷ bs) = if is_blank b then behind_blanks bs else b ∷ bs

-- what a list says that ends with the first `)`, which only blanks follow
abbrev pub said_up_to_parenthesis : Language → List ℕ → Option Flags
said_up_to_parenthesis language text =
    let size = prefix_len (λ b. not (b == closing_parenthesis)) text in
    elim (drop size text) [
      | [] ↦ None
      | parenthesis ∷ behind ↦ if list_all is_blank behind then flags_of language (words_of (take size text)) else None
    ]

-- what a list in parentheses says
abbrev pub said_in_parentheses : Language → List ℕ → Option Flags
said_in_parentheses language text = if begins_with_byte opening_parenthesis text then said_up_to_parenthesis language (drop 1 text) else None

-- what a list in parentheses says after `=`, and maybe blanks
abbrev pub said_behind_sign : Language → List ℕ → Option Flags
said_behind_sign language text = if begins_with_byte equals text then said_in_parentheses language (behind_blanks (drop 1 text)) else None

-- What FLAGS say as a text: nothing, or a list in parentheses, before which `flags` and `=` may come, each with or without blanks after it.
abbrev pub said : Language → List ℕ → Option Flags
said language text =
    if is_empty text then Some unflagged else
    if begins_with (codes "flags") text then said_behind_sign language (behind_blanks (drop 5 text)) else
    said_in_parentheses language text

-- the word `flags`, `=` and a text, with blanks before the latter two
abbrev pub with_keyword : List ℕ → List ℕ → List ℕ → List ℕ
with_keyword blanks more text = codes "flags" ++ (blanks ++ equals ∷ (more ++ text))

-- What is read from FLAGS is what they say, the brace that ends them and what follows it. Where they say nothing, they are refused.
abbrev pub IsReadAs : Option Flags → Placed → List Placed → Part (Flags × Placed) → Type 0
IsReadAs said brace rest read = MatchOption said (IsErr read) (λ flags. read ≡ Ok ((flags, brace), rest))
