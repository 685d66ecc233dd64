-- The rank that no other of some ranks reaches (docs/policy.md, "Exec and attachment").
use Rattle.std.specs.Prelude.{ℕ, Bool, ◌+◌, ◌==◌, if◌then◌else◌, List, [], ◌∷◌, fold, Option, None, Some}
use Rattle.std.specs.List.{list_any}
use Rattle.std.specs.Option.{option_map}
use Rattle.aa_decide_rules.specs.Ranks.{greater}

-- the greatest of some ranks
abbrev pub greatest : List ℕ → ℕ
greatest ranks = fold greater 0 ranks

-- a rank is among some ranks
abbrev pub has_rank : ℕ → List ℕ → Bool
has_rank rank ranks = list_any (λ other. other == rank) ranks

-- the index of a rank that is among some ranks once
abbrev pub place_of_only : ℕ → List ℕ → Option ℕ
place_of_only rank [] = None
place_of_only rank (other ∷ ranks) =
    if other == rank
    then (if has_rank rank ranks then None else Some 0)
    else option_map (λ place. 1 + place) (place_of_only rank ranks)

-- The index of the rank that no other reaches. Rank 0 is that of what doesn't fit, and stands out nowhere.
abbrev pub standing_out : List ℕ → Option ℕ
standing_out ranks = if greatest ranks == 0 then None else place_of_only (greatest ranks) ranks
