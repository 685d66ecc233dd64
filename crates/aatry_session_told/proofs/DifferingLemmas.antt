-- What is gathered of one file more.
use Rattle.std.proofs.Common.{◌≡◌, ◌∙◌, ◌<◌, ◌+◌, ℕ, List, ◌++◌, ap, append_assoc, drop, flat_map, length, slice_index_or, sym}
use Rattle.std.proofs.lemmas.List.{at_drop_more}

-- what an item of a list gives, ahead of what those behind it give
pub next_gives : {S T : Type 0} (f : S → List T) (xs : List S) (place : ℕ) (given : S) (found : List T) → place < length xs
    → (found ++ f (slice_index_or xs place given)) ++ flat_map f (drop (place + 1) xs) ≡ found ++ flat_map f (drop place xs)
next_gives f xs place given found within =
    append_assoc found (f (slice_index_or xs place given)) (flat_map f (drop (place + 1) xs))
    ∙ ap (λ behind. found ++ behind) (sym (at_drop_more (flat_map f) xs place given within))
