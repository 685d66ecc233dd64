-- What the code's tokens of several files are as the definitions see them.
use Rattle.aa_text_tokens.specs.SeenTokens.{seen}
use Rattle.aa_text_tokens.specs.Splicing.{Placed}
use Rattle.aa_text_tokens.specs.declared.spliced_token.Spliced.{Spliced}

-- a token of the code, and the index of its file
abbrev pub seen_spliced : Spliced → Placed
seen_spliced spliced = record { file = spliced.file; token = seen spliced.token }
