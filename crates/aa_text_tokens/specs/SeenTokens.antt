-- What the code's tokens are as the definitions see them.
use Rattle.aa_text_tokens.specs.Cut.{Seen}
use Rattle.aa_text_tokens.specs.declared.cut.Token.{Token}

-- a token
abbrev pub seen : Token → Seen
seen token = record { kind = token.kind; text = token.text.now; start = token.start; end = token.end }
