-- Tables, name by name.
use Rattle.std.proofs.Common.{◌≡◌, ℕ, ◌+◌, ◌<◌, List, ◌++◌, length, take, ap, sym, ◌∙◌}
use Rattle.std.specs.Prelude.{slice_get}
use Rattle.std.specs.Option.{option_to_list}
use Rattle.std.proofs.lemmas.Option.{slice_get-get_or}
use Rattle.std.proofs.lemmas.List.{take_more}

-- the names up to the next number are those up to this one, and the one that stands there
pub take_next : (names : List (List ℕ)) (number : ℕ) (other : List ℕ) → number < length names
    → take (number + 1) names ≡ take number names ++ option_to_list (slice_get names number)
take_next names number other h =
    take_more names number other h ∙ ap (λ name. take number names ++ option_to_list name) (sym (slice_get-get_or names number other h))
