-- The token at a place.
use Rattle.std.specs.Prelude.{ℕ, false, find, ◌==◌, List, Option, None, Ok, Err}
use Rattle.std.specs.Option.{option_map}
use Rattle.aa_text_tokens.specs.Cut.{Seen, cut}

-- the text of the token that begins at an offset, if one does
abbrev pub text_from : List Seen → ℕ → Option (List ℕ)
text_from tokens at = option_map (λ token. token.text) (find (λ token. token.start == at) tokens)

-- the text of the token of a text that begins at an offset of it, if the text can be cut
abbrev pub text_at : List ℕ → ℕ → Option (List ℕ)
text_at source at = elim (cut 0 0 false source) [ Err fault ↦ None | Ok tokens ↦ text_from tokens at ]
