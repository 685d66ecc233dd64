-- Heads of profiles, children and hats: name, attachment, flags and the brace that opens the block (apparmor.d(5), "PROFILES"; docs/policy.md,
-- "Files").
use Rattle.std.specs.Prelude.{ℕ, Bool, ◌&&◌, ◌||◌, if◌then◌else◌, List, [], ◌∷◌, drop, Option, None, Some, Ok, codes}
use Rattle.aa_bytes.specs.Bytes.{caret, slash}
use Rattle.aa_bytes.specs.Texts.{begins_with_byte}
use Rattle.aa_text_tokens.specs.Splicing.{Placed}
use Rattle.aa_text_tokens.specs.declared.cut.TokenKind.TheVariants.{Assign}
use Rattle.aa_profile_parsing.specs.Parts.{Part, expected, followed, refused}
use Rattle.aa_profile_parsing.specs.Tokens.{is_pattern, is_text, is_word, is_word_of, text_of}
use Rattle.aa_profile_parsing.specs.declared.fault.GrammarRefusal.TheVariants.{BadToken, LateAssignment}
use Rattle.aa_profile_parsing.specs.declared.language.Language.{Language}
use Rattle.aa_profile_parsing.specs.Flags.{flags}
use Rattle.aa_profile_parsing.specs.IdleFlags.{flag_tokens}
use Rattle.aa_profile_parsing.specs.declared.flags.Flags.{Flags}
use Rattle.aa_profile_grammar.specs.declared.heads.Form.{Form}
use Rattle.aa_profile_grammar.specs.declared.heads.Form.TheVariants.{Profile, Path, Hat}

-- how a head begins: its form, its name, and the token of the name
pub record Named : Type 0 where
  pub form : Form
  pub name : List ℕ
  pub token : Placed

-- a head: the name and its token, the token of the attachment, the flags that decide something, the tokens of FLAGS, and the brace
pub record Head : Type 0 where
  pub name : List ℕ
  pub token : Placed
  pub attachment : Option Placed
  pub flags : Flags
  pub flag_tokens : List Placed
  pub brace : Placed

-- a name after the word `profile` or `hat`
abbrev pub name_behind : Form → List Placed → Part Named
name_behind form tokens = followed (expected is_text tokens) (λ token behind. Ok (record { form = form; name = text_of token; token = token }, behind))

-- How a profile that isn't within another begins: with the word `profile`, or with a path, which is its name and its attachment.
abbrev pub top_name : Placed → List Placed → Part Named
top_name token tokens =
    if is_word_of (codes "profile") token then name_behind Profile tokens else
    if is_pattern token then Ok (record { form = Path; name = text_of token; token = token }, tokens) else
    elim token.token.kind [ Assign append ↦ refused LateAssignment token | _ ↦ refused BadToken token ]

-- a word of a hat's short form: `^` and the name
abbrev pub is_short_hat : Placed → Bool
is_short_hat token = is_word token.token.kind && begins_with_byte caret (text_of token)

-- a token with which a child or a hat begins
abbrev pub begins_child : Placed → Bool
begins_child token = is_word_of (codes "profile") token || is_word_of (codes "hat") token || is_short_hat token

-- how a child or a hat begins
abbrev pub child_name : Placed → List Placed → Part Named
child_name token tokens =
    if is_word_of (codes "profile") token then name_behind Profile tokens else
    if is_word_of (codes "hat") token then name_behind Hat tokens else
    Ok (record { form = Hat; name = drop 1 (text_of token); token = token }, tokens)

-- the name itself as its attachment, where it begins with a slash
abbrev pub own_attachment : Named → Option Placed
own_attachment named = if begins_with_byte slash named.name then Some named.token else None

-- The attachment after a name: for `profile` a pattern, or the name itself, where it begins with a slash; for a path the path; a hat has none.
abbrev pub attachment : Named → List Placed → Option Placed × List Placed
attachment named tokens = elim named.form [
  | Path ↦ (Some named.token, tokens)
  | Hat ↦ (None, tokens)
  | Profile ↦ elim tokens [
    | [] ↦ (own_attachment named, [])
    | token ∷ behind ↦ if is_pattern token then (Some token, behind) else (own_attachment named, token ∷ behind)
  ]
]

-- a head, after its name
abbrev pub head : Language → Named → List Placed → Part Head
head language named tokens =
    let attached = attachment named tokens in
    followed (flags language attached.1) (λ read behind.
    Ok (record { name = named.name; token = named.token; attachment = attached.0; flags = read.0; flag_tokens = flag_tokens attached.1; brace = read.1 }, behind))
