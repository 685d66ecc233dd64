-- Assignments, from the count of their values.
use Rattle.std.proofs.Common.{◌≡◌, ℕ, ◌-◌, ◌<◌, Bool, false, List, Ok, length, take, drop, sym, ap, ◌∙◌, arith}
use Rattle.std.specs.Prelude.{◌==◌}
use Rattle.std.proofs.lemmas.Bool.Decides.{nat_tests}
use Rattle.std.proofs.lemmas.List.{drop-map, take-map, take_rest}
use Rattle.aa_text_tokens.specs.Splicing.{Placed}
use Rattle.aa_text_tokens.specs.SeenSplicedTokens.{seen_spliced}
use Rattle.aa_text_tokens.specs.declared.spliced_token.Spliced.{Spliced}
use Rattle.aa_profile_parsing.specs.Parts.{Part}
use Rattle.aa_profile_parsing.specs.SeenTokens.{seen_tokens}
use Rattle.aa_profile_grammar.specs.Preamble.{Assignment, assignment, value_count}

-- at least one value
pub assignment-some : (sign : Spliced) (append : Bool) (tokens : List Spliced) (count : ℕ) → count ≡ value_count (seen_tokens tokens) → 0 < count
    → assignment (seen_spliced sign) append (seen_tokens tokens)
    ≡ Ok (record { sign = seen_spliced sign; append = append; values = seen_tokens (take count tokens) }, seen_tokens (take (length tokens - count) (drop count tokens)))
assignment-some sign append tokens count is some =
    let none : (count == 0) ≡ false = grind (arith, nat_tests) in
    rw (sym is, none, take_rest tokens count) (ap (read (drop count (seen_tokens tokens))) (take-map seen_spliced count tokens) ∙ ap (λ rest. read rest (seen_tokens (take count tokens))) (drop-map seen_spliced count tokens))
  where
    read : List Placed → List Placed → Part Assignment
    read rest values = Ok (record { sign = seen_spliced sign; append = append; values = values }, rest)
