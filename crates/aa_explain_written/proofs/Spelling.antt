-- What texts are cut into, wherever they stand: kinds of tokens with their texts.
use Rattle.std.specs.Prelude.{◌≡◌, ℕ, zero, suc, false, List, [], ◌∷◌, Ok}
use Rattle.aa_text_tokens.specs.Cut.{Seen, cut}
use Rattle.aa_bytes.specs.Bytes.{closing_brace, comma, opening_brace}
use Rattle.aa_text_tokens.specs.Splicing.{Placed}
use Rattle.aa_text_tokens.specs.declared.cut.TokenKind.{TokenKind}
use Rattle.aa_text_tokens.specs.declared.cut.TokenKind.TheVariants.{CloseBrace, Comma, OpenBrace, Quoted, Word}

-- a token without the place where it stands
pub record Bare : Type 0 where
  pub kind : TokenKind
  pub text : List ℕ

-- where each of some tokens begins and ends
abbrev pub Spans : Type 0
Spans = ℕ → ℕ × ℕ

-- some spans behind one
abbrev pub span_before : ℕ × ℕ → Spans → Spans
span_before span spans zero = span
span_before span spans (suc index) = spans index

-- tokens at these places
abbrev pub seen_at : Spans → List Bare → List Seen
seen_at spans [] = []
seen_at spans (token ∷ tokens) =
    record { kind = token.kind; text = token.text; start = (spans 0).0; end = (spans 0).1 } ∷ seen_at (λ index. spans (suc index)) tokens

-- a text is cut into these tokens, wherever it stands outside values
abbrev pub Spells : List ℕ → List Bare → Type 0
Spells text tokens = (at : ℕ) → (spans : Spans) × (cut at 0 false text ≡ Ok (seen_at spans tokens))

-- a token of a file
abbrev pub placed : ℕ → ℕ × ℕ → Bare → Placed
placed file span token = record { file = file; token = record { kind = token.kind; text = token.text; start = span.0; end = span.1 } }

-- tokens of a file at these places
abbrev pub placed_at : ℕ → Spans → List Bare → List Placed
placed_at file spans [] = []
placed_at file spans (token ∷ tokens) = placed file (spans 0) token ∷ placed_at file (λ index. spans (suc index)) tokens

-- a word
abbrev pub word : List ℕ → Bare
word text = record { kind = Word; text = text }

-- a text in quotes
abbrev pub in_quotes : List ℕ → Bare
in_quotes text = record { kind = Quoted; text = text }

-- a comma
abbrev pub a_comma : Bare
a_comma = record { kind = Comma; text = comma ∷ [] }

-- the braces of a block
abbrev pub an_opening : Bare
an_opening = record { kind = OpenBrace; text = opening_brace ∷ [] }

abbrev pub a_closing : Bare
a_closing = record { kind = CloseBrace; text = closing_brace ∷ [] }
