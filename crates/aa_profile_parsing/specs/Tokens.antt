-- Tokens of a profile's file by what they can be in its grammar (apparmor.d(5), "FORMAT"; docs/policy.md, "Files").
use Rattle.std.specs.Prelude.{ℕ, Bool, true, false, ◌&&◌, ◌||◌, List}
use Rattle.std.specs.Str.{bytes_eq}
use Rattle.aa_bytes.specs.Bytes.{at_sign, slash}
use Rattle.aa_bytes.specs.Texts.{begins_with_byte}
use Rattle.aa_text_files.specs.declared.text_error.Place.{Place}
use Rattle.aa_text_tokens.specs.Splicing.{Placed}
use Rattle.aa_text_tokens.specs.declared.cut.TokenKind.{TokenKind}
use Rattle.aa_text_tokens.specs.declared.cut.TokenKind.TheVariants.{Quoted, Word, Comma, OpenBrace, CloseBrace}

-- the place of a token
abbrev pub place_of : Placed → Place
place_of placed = record { file = placed.file; at = placed.token.start }

-- the text of a token
abbrev pub text_of : Placed → List ℕ
text_of placed = placed.token.text

abbrev pub is_word : TokenKind → Bool
is_word Word = true
is_word _ = false

abbrev pub is_quoted : TokenKind → Bool
is_quoted Quoted = true
is_quoted _ = false

abbrev pub is_comma : TokenKind → Bool
is_comma Comma = true
is_comma _ = false

abbrev pub is_open_brace : TokenKind → Bool
is_open_brace OpenBrace = true
is_open_brace _ = false

abbrev pub is_close_brace : TokenKind → Bool
is_close_brace CloseBrace = true
is_close_brace _ = false

-- a word that is this text
abbrev pub is_word_of : List ℕ → Placed → Bool
is_word_of text placed = is_word placed.token.kind && bytes_eq (text_of placed) text

-- a word, or a quoted text
abbrev pub is_text : Placed → Bool
is_text placed = is_word placed.token.kind || is_quoted placed.token.kind

-- a pattern: a quoted text, or a word that begins with `/` or `@`
abbrev pub is_pattern : Placed → Bool
is_pattern placed =
    is_quoted placed.token.kind ||
    (is_word placed.token.kind && (begins_with_byte slash (text_of placed) || begins_with_byte at_sign (text_of placed)))
