-- What the code's tokens are as the definitions see them.
use Rattle.std.specs.Prelude.{List, map}
use Rattle.aa_text_tokens.specs.Splicing.{Placed}
use Rattle.aa_text_tokens.specs.SeenSplicedTokens.{seen_spliced}
use Rattle.aa_text_tokens.specs.declared.spliced_token.Spliced.{Spliced}

-- tokens of the code
abbrev pub seen_tokens : List Spliced → List Placed
seen_tokens tokens = map seen_spliced tokens
