-- How well patterns of attachments fit a path (apparmor.d(5), "Profile Head"; docs/policy.md, "Exec and attachment").
use Rattle.std.specs.Prelude.{ℕ, ◌+◌, if◌then◌else◌, List, fold, nat_le}
use Rattle.aa_glob_syntax.specs.Exactness.{is_exact, literal_prefix}
use Rattle.aa_glob_syntax.specs.Matching.{matches}
use Rattle.aa_glob_syntax.specs.Reading.{items_of, longest}

abbrev pub greater : ℕ → ℕ → ℕ
greater one other = if nat_le one other then other else one

-- The rank of exact patterns, above all other ranks: no pattern has a longer literal beginning than a pattern may have bytes.
abbrev pub exact_rank : ℕ
exact_rank = longest + 2

-- The rank of a pattern on a path: 0 where it doesn't match, and else by the length of its literal beginning, but exact patterns are above all
-- others.
abbrev pub rank : List ℕ → List ℕ → ℕ
rank path pattern =
    if matches (items_of pattern) path
    then (if is_exact (items_of pattern) then exact_rank else literal_prefix (items_of pattern) + 1)
    else 0

-- the rank of the best of some patterns
abbrev pub best_rank : List ℕ → List (List ℕ) → ℕ
best_rank path patterns = fold (λ best pattern. greater best (rank path pattern)) 0 patterns
