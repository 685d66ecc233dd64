-- What the code's tokens are as the definitions see them.
use Rattle.std.specs.Prelude.{ℕ, Bool, List, ◌++◌, map, Vec, Result, Ok, Err}
use Rattle.aa_text_tokens.specs.Cut.{Seen, cut}
use Rattle.aa_text_tokens.specs.declared.cut.CutRefusal.{CutRefusal}
use Rattle.aa_text_tokens.specs.declared.cut.Token.{Token}
use Rattle.aa_text_tokens.specs.SeenTokens.{seen}

-- some tokens, and then others
abbrev pub with_tokens : List Seen → Result (List Seen) (CutRefusal × ℕ) → Result (List Seen) (CutRefusal × ℕ)
with_tokens front (Ok tokens) = Ok (front ++ tokens)
with_tokens front (Err fault) = Err fault

-- the code's tokens so far, followed by those of what is left of the source, from an offset on
abbrev pub cut_behind : {A : Type 0} → Vec Token A → ℕ → Bool → List ℕ → Result (List Seen) (CutRefusal × ℕ)
cut_behind tokens at values text = with_tokens (map seen tokens.items) (cut at 0 values text)
