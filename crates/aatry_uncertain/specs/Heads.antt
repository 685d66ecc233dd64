-- The heads of profiles in a text, as far as they can be read where it is refused (docs/policy.md, "Profiles").
use Rattle.std.specs.Prelude.{ℕ, ◌+◌, ◌-◌, Bool, true, false, not, ◌==◌, ◌&&◌, ◌||◌, if◌then◌else◌, List, [], ◌∷◌, ◌++◌, Option, None, Some, is_some, Result, Ok, Err, codes}
use Rattle.std.specs.Str.{bytes_eq}
use Rattle.aa_bytes.specs.Bytes.{at_sign, slash}
use Rattle.aa_bytes.specs.Texts.{begins_with_byte}
use Rattle.aa_text_tokens.specs.Cut.{Seen, cut}
use Rattle.aa_text_tokens.specs.declared.cut.CutRefusal.{CutRefusal}
use Rattle.aa_text_tokens.specs.declared.cut.TokenKind.{TokenKind}
use Rattle.aa_text_tokens.specs.declared.cut.TokenKind.TheVariants.{CloseBrace, Comma, OpenBrace, Quoted, Word}

-- a profile's head: its name, and the pattern by which it attaches, if it has one, both as they are written
pub record Head : Type 0 where
  pub name : List ℕ
  pub attachment : Option (List ℕ)

-- a token that may be a name: a word, or a text in quotes
abbrev pub is_text : TokenKind → Bool
is_text Word = true
is_text Quoted = true
is_text kind = false

-- a text that may be an attachment: it begins like a path, or with a variable
abbrev pub may_attach : List ℕ → Bool
may_attach text = begins_with_byte slash text || begins_with_byte at_sign text

-- a token that may be an attachment
abbrev pub is_attachment : Seen → Bool
is_attachment token = is_text token.kind && may_attach token.text

-- the attachment in a name alone
abbrev pub own_attachment : List ℕ → Option (List ℕ)
own_attachment name = if may_attach name then Some name else None

-- the attachment of a profile: what follows its name, if that may be one, or else the name
abbrev pub attachment_behind : List ℕ → List Seen → Option (List ℕ)
attachment_behind name [] = own_attachment name
attachment_behind name (token ∷ tokens) = if is_attachment token then Some token.text else own_attachment name

-- the head after the word `profile`
abbrev pub named_head : List Seen → Option Head
named_head [] = None
named_head (token ∷ tokens) =
    if is_text token.kind then Some (record { name = token.text; attachment = attachment_behind token.text tokens }) else None

-- the word `profile`
abbrev pub is_keyword_text : TokenKind → List ℕ → Bool
is_keyword_text Word text = bytes_eq text (codes "profile")
is_keyword_text kind text = false

abbrev pub is_keyword : Seen → Bool
is_keyword token = is_keyword_text token.kind token.text

-- the head that begins with a token, by the tokens after it: with the word `profile`, or with the name alone, which is then an attachment
abbrev pub head_at : Seen → List Seen → Option Head
head_at token tokens =
    if is_keyword token then named_head tokens else
    if is_attachment token then Some (record { name = token.text; attachment = Some token.text }) else
    None

-- where tokens are: within so many blocks, and whether within a head, whose block is still to open
pub record Place : Type 0 where
  pub depth : ℕ
  pub begun : Bool

-- so many blocks are open after a token
abbrev pub depth_behind : TokenKind → ℕ → ℕ
depth_behind OpenBrace depth = depth + 1
depth_behind CloseBrace depth = depth - 1
depth_behind kind depth = depth

-- a token that ends a head
abbrev pub ends_head : TokenKind → Bool
ends_head OpenBrace = true
ends_head CloseBrace = true
ends_head Comma = true
ends_head kind = false

-- the head that begins at a place: only outside of blocks and heads
abbrev pub head_here : Place → Seen → List Seen → Option Head
head_here place token tokens = if place.depth == 0 && not place.begun then head_at token tokens else None

-- the place after a token, with which a head began or didn't
abbrev pub place_behind : Place → TokenKind → Bool → Place
place_behind place kind found = record { depth = depth_behind kind place.depth; begun = not (ends_head kind) && (place.begun || found) }

-- a head before other heads, if there is one
abbrev pub with_head : Option Head → List Head → List Head
with_head None heads = heads
with_head (Some head) heads = head ∷ heads

-- the heads among tokens from a place on
abbrev pub heads_from : Place → List Seen → List Head
heads_from place [] = []
heads_from place (token ∷ tokens) =
    let found = head_here place token tokens in
    with_head found (heads_from (place_behind place token.kind (is_some found)) tokens)

-- the place before all tokens
abbrev pub outside : Place
outside = record { depth = 0; begun = false }

-- the heads of a text that is cut; none of one that can't be
abbrev pub heads_by : Result (List Seen) (CutRefusal × ℕ) → List Head
heads_by (Ok tokens) = heads_from outside tokens
heads_by (Err fault) = []

-- the heads of a text's profiles
abbrev pub heads_of : List ℕ → List Head
heads_of text = heads_by (cut 0 0 false text)
