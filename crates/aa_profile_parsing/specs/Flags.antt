-- FLAGS of a profile, a child or a hat (apparmor.d(5), "Profile Flags"; docs/policy.md, "Flags"): words and commas before its brace, which make one
-- text, with a blank between each two: nothing, or `(`, flags, `)`, where `flags =` may come before.
use Rattle.std.specs.Prelude.{ℕ, Bool, true, false, not, ◌==◌, ◌||◌, if◌then◌else◌, List, [], ◌∷◌, take, drop, Option, None, Some, Result, Ok, Err, codes}
use Rattle.std.specs.List.{list_any, prefix_len, slice_split}
use Rattle.std.specs.Str.{bytes_eq}
use Rattle.aa_bytes.specs.Bytes.{closing_parenthesis, comma, equals, is_blank, opening_parenthesis}
use Rattle.aa_bytes.specs.Texts.{begins_with, begins_with_byte, is_empty}
use Rattle.aa_text_tokens.specs.Splicing.{Placed}
use Rattle.aa_text_tokens.specs.declared.cut.TokenKind.TheVariants.{Comma, Word, OpenBrace}
use Rattle.aa_profile_parsing.specs.Parts.{Part, refused}
use Rattle.aa_profile_parsing.specs.Tokens.{text_of}
use Rattle.aa_profile_parsing.specs.declared.fault.Fault.TheVariants.{RanOut}
use Rattle.aa_profile_parsing.specs.declared.fault.GrammarRefusal.{GrammarRefusal}
use Rattle.aa_profile_parsing.specs.declared.fault.GrammarRefusal.TheVariants.{BadFlag, BadToken, LeftOut}
use Rattle.aa_profile_parsing.specs.declared.language.Language.{Language}
use Rattle.aa_profile_parsing.specs.declared.language.Language.TheVariants.{Four, Three}
use Rattle.aa_profile_parsing.specs.declared.flags.Flags.{Flags}
use Rattle.aa_profile_parsing.specs.declared.flags.FlagsSoFar.{FlagsSoFar}
use Rattle.aa_profile_parsing.specs.declared.flags.FlagsSoFar.TheVariants.{Absent, Keyword, Sign, Listing, Closed}
use Rattle.aa_profile_parsing.specs.declared.flags.ModeFlag.{ModeFlag}
use Rattle.aa_profile_parsing.specs.declared.flags.ModeFlag.TheVariants.{Complain, DefaultAllow, Enforce, Unconfined}

-- the names of flags that decide nothing
abbrev pub idle_names : List (List ℕ)
idle_names =
    codes "attach_disconnected" ∷ codes "no_attach_disconnected" ∷ codes "chroot_relative" ∷ codes "namespace_relative" ∷ codes "chroot_attach" ∷
    codes "chroot_no_attach" ∷ codes "mediate_deleted" ∷ codes "delegate_deleted" ∷ codes "debug" ∷ codes "interruptible" ∷ []

-- a flag that decides nothing in both languages
abbrev pub is_idle_in_all : List ℕ → Bool
is_idle_in_all word = list_any (bytes_eq word) idle_names || begins_with (codes "attach_disconnected.path=") word

-- a flag that decides nothing
abbrev pub is_idle : Language → List ℕ → Bool
is_idle Three word = is_idle_in_all word
is_idle Four word = is_idle_in_all word || begins_with (codes "error=") word || begins_with (codes "kill.signal=") word

-- the name of a mode flag
abbrev pub name_of_mode : ModeFlag → List ℕ
name_of_mode Enforce = codes "enforce"
name_of_mode Complain = codes "complain"
name_of_mode Unconfined = codes "unconfined"
name_of_mode DefaultAllow = codes "default_allow"

-- the mode flag that a word is in language 4 alone
abbrev pub wider_mode_flag : Language → List ℕ → Option ModeFlag
wider_mode_flag Three word = None
wider_mode_flag Four word =
    if bytes_eq word (codes "unconfined") then Some Unconfined else
    if bytes_eq word (codes "default_allow") then Some DefaultAllow else
    None

-- the mode flag that a word is, if it is one
abbrev pub mode_flag : Language → List ℕ → Option ModeFlag
mode_flag language word =
    if bytes_eq word (codes "enforce") then Some Enforce else
    if bytes_eq word (codes "complain") then Some Complain else
    wider_mode_flag language word

-- two mode flags are the same
abbrev pub same_mode : ModeFlag → ModeFlag → Bool
same_mode Enforce Enforce = true
same_mode Complain Complain = true
same_mode Unconfined Unconfined = true
same_mode DefaultAllow DefaultAllow = true
same_mode _ _ = false

-- no flag
abbrev pub unflagged : Flags
unflagged = record { mode = None; audit = false }

-- Flags and a mode flag. It may be repeated, but two different ones are refused.
abbrev pub with_mode : Flags → ModeFlag → Result Flags GrammarRefusal
with_mode flags mode = elim flags.mode [
  | None ↦ Ok (record { mode = Some mode; audit = flags.audit })
  | Some before ↦ if same_mode before mode then Ok flags else Err BadFlag
]

-- the refusal of a word that is no flag: `LeftOut` for what AppArmor has and isn't read here
abbrev pub refusal_of_word : Language → List ℕ → GrammarRefusal
refusal_of_word Three word = BadFlag
refusal_of_word Four word = if bytes_eq word (codes "kill") || bytes_eq word (codes "prompt") then LeftOut else BadFlag

-- flags and the flag of a word, if it is one
abbrev pub with_flag : Language → Flags → List ℕ → Result Flags GrammarRefusal
with_flag language flags word = elim (mode_flag language word) [
  | Some mode ↦ with_mode flags mode
  | None ↦
      if bytes_eq word (codes "audit") then Ok (record { mode = flags.mode; audit = true }) else
      if is_idle language word then Ok flags else
      Err (refusal_of_word language word)
]

-- flags and the flag of a word, if there is one: between two separators may be none
abbrev pub with_item : Language → Flags → List ℕ → Result Flags GrammarRefusal
with_item language flags word = if is_empty word then Ok flags else with_flag language flags word

-- flags and those of a list, or the refusal of the first word that is none
abbrev pub with_flags : Language → Flags → List (List ℕ) → Result Flags GrammarRefusal
with_flags language flags [] = Ok flags
with_flags language flags (word ∷ words) = elim (with_item language flags word) [ Err refusal ↦ Err refusal | Ok more ↦ with_flags language more words ]

-- what separates flags
abbrev pub separates : ℕ → Bool
separates b = is_blank b || b == comma

-- the list continues: flags, up to the first `)`, which must end the text
abbrev pub listed : Language → Flags → List ℕ → Result FlagsSoFar GrammarRefusal
listed language flags text =
    let size = prefix_len (λ b. not (b == closing_parenthesis)) text in
    elim (with_flags language flags (slice_split separates (take size text))) [
      | Err refusal ↦ Err refusal
      | Ok more ↦ elim (drop size text) [
        | [] ↦ Ok (Listing more)
        | parenthesis ∷ behind ↦ if is_empty behind then Ok (Closed more) else Err BadToken
      ]
    ]

-- the list begins
abbrev pub opened : Language → List ℕ → Result FlagsSoFar GrammarRefusal
opened language text = if begins_with_byte opening_parenthesis text then listed language unflagged (drop 1 text) else Err BadToken

-- the sign was read
abbrev pub behind_sign : Language → List ℕ → Result FlagsSoFar GrammarRefusal
behind_sign language text = if is_empty text then Ok Sign else opened language text

-- the word `flags` was read
abbrev pub behind_keyword : Language → List ℕ → Result FlagsSoFar GrammarRefusal
behind_keyword language text =
    if is_empty text then Ok Keyword else
    if begins_with_byte equals text then behind_sign language (drop 1 text) else
    Err BadToken

-- one more word, after what was read
abbrev pub with_word : Language → FlagsSoFar → List ℕ → Result FlagsSoFar GrammarRefusal
with_word language Absent text = if begins_with (codes "flags") text then behind_keyword language (drop 5 text) else opened language text
with_word language Keyword text = behind_keyword language text
with_word language Sign text = behind_sign language text
with_word language (Listing flags) text = listed language flags text
with_word language (Closed flags) text = Err BadToken

-- one more comma
abbrev pub with_comma : FlagsSoFar → Result FlagsSoFar GrammarRefusal
with_comma (Listing flags) = Ok (Listing flags)
with_comma _ = Err BadToken

-- one more token that isn't the brace
abbrev pub with_token : Language → FlagsSoFar → Placed → Result FlagsSoFar GrammarRefusal
with_token language before token = elim token.token.kind [
  | Word ↦ with_word language before (text_of token)
  | Comma ↦ with_comma before
  | _ ↦ Err BadToken
]

-- the flags where the brace comes
abbrev pub finished : FlagsSoFar → Option Flags
finished Absent = Some unflagged
finished (Closed flags) = Some flags
finished _ = None

-- FLAGS after what was read of them, and the brace that ends them
abbrev pub flags_behind : Language → FlagsSoFar → List Placed → Part (Flags × Placed)
flags_behind language before [] = Err RanOut
flags_behind language before (token ∷ tokens) = elim token.token.kind [
  | OpenBrace ↦ elim (finished before) [ None ↦ refused BadToken token | Some flags ↦ Ok ((flags, token), tokens) ]
  | _ ↦ elim (with_token language before token) [ Err refusal ↦ refused refusal token | Ok after ↦ flags_behind language after tokens ]
]

-- FLAGS, and the brace that ends them
abbrev pub flags : Language → List Placed → Part (Flags × Placed)
flags language tokens = flags_behind language Absent tokens
