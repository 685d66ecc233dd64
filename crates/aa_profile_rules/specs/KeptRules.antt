-- Rules that decide nothing here, and are kept and shown as they are written (apparmor.d(5); docs/policy.md, "Rules that are kept").
use Rattle.std.specs.Prelude.{ℕ, zero, ◌+◌, ◌==◌, Bool, ◌&&◌, ◌||◌, if◌then◌else◌, List, [], ◌∷◌, take, drop, Ok, Err, Result, codes}
use Rattle.std.specs.List.{list_any}
use Rattle.std.specs.Str.{bytes_eq}
use Rattle.aa_bytes.specs.Bytes.{closing_parenthesis, opening_parenthesis}
use Rattle.aa_text_tokens.specs.Splicing.{Placed}
use Rattle.aa_text_tokens.specs.declared.cut.TokenKind.TheVariants.{Comma, Quoted, Word}
use Rattle.aa_profile_parsing.specs.Parts.{Part, refused}
use Rattle.aa_profile_parsing.specs.Tokens.{is_word, text_of}
use Rattle.aa_profile_parsing.specs.declared.fault.Fault.{Fault}
use Rattle.aa_profile_parsing.specs.declared.fault.Fault.TheVariants.{RanOut}
use Rattle.aa_profile_parsing.specs.declared.fault.GrammarRefusal.TheVariants.{BadToken}

-- the words of rules on mounts
abbrev pub mount_words : List (List ℕ)
mount_words = codes "mount" ∷ codes "remount" ∷ codes "umount" ∷ codes "unmount" ∷ codes "pivot_root" ∷ []

-- the words of rules on how processes reach one another
abbrev pub process_words : List (List ℕ)
process_words = codes "signal" ∷ codes "ptrace" ∷ codes "unix" ∷ codes "dbus" ∷ codes "mqueue" ∷ []

-- the words of other rules that are kept
abbrev pub other_words : List (List ℕ)
other_words = codes "change_profile" ∷ codes "set" ∷ codes "io_uring" ∷ codes "userns" ∷ codes "link" ∷ []

abbrev pub is_among : List (List ℕ) → List ℕ → Bool
is_among words text = list_any (bytes_eq text) words

-- the words with which kept rules begin
abbrev pub is_kept_word : List ℕ → Bool
is_kept_word text = is_among mount_words text || is_among process_words text || is_among other_words text

abbrev pub begins_kept : Placed → Bool
begins_kept token = is_word token.token.kind && is_kept_word (text_of token)

-- how often a text holds a byte
abbrev pub count_of : ℕ → List ℕ → ℕ
count_of byte [] = zero
count_of byte (b ∷ bs) = if b == byte then 1 + count_of byte bs else count_of byte bs

-- so many tokens, followed by as many as the result says
abbrev pub and_then : ℕ → Result ℕ Fault → Result ℕ Fault
and_then count (Err fault) = Err fault
and_then count (Ok size) = Ok (count + size)

-- How many tokens a kept rule still has before the Comma that ends it, where its Words had so many `(` and `)`: it ends at the first Comma before
-- which they are equally many.
abbrev pub size_behind : ℕ → ℕ → List Placed → Result ℕ Fault
size_behind opened closed [] = Err RanOut
size_behind opened closed (token ∷ tokens) = elim token.token.kind [
  | Comma ↦ if opened == closed then Ok zero else and_then 1 (size_behind opened closed tokens)
  | Quoted ↦ and_then 1 (size_behind opened closed tokens)
  | Word ↦
      let opened = opened + count_of opening_parenthesis (text_of token) in
      let closed = closed + count_of closing_parenthesis (text_of token) in
      and_then 1 (size_behind opened closed tokens)
  | _ ↦ refused BadToken token
]

-- The tokens of a kept rule, from its word up to the Comma that ends it.
abbrev pub kept : List Placed → Part (List Placed)
kept tokens = elim (size_behind 0 0 tokens) [ Err fault ↦ Err fault | Ok size ↦ Ok (take size tokens, drop (size + 1) tokens) ]
