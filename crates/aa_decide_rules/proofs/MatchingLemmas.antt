-- The best of the patterns that match a path is the best of all.
use Rattle.std.proofs.Common.{◌≡◌, ℕ, zero, suc, ◌<◌, ◌≤◌, Bool, true, false, List, [], ◌∷◌, length, Option, None, Some, arith, ap, refl, sym, ◌∙◌}
use Rattle.std.specs.Prelude.{fold, slice_get}
use Rattle.std.specs.List.{Contains}
use Rattle.std.proofs.lemmas.Option.{slice_get-get_or}
use Rattle.aa_decide_rules.proofs.RankLemmas.{greater-least, greater-most}
use Rattle.aa_decide_rules.specs.Ranks.{best_rank, greater, rank}
use Rattle.aa_decide_rules.specs.code.MatchingRanks.{best_among, matching_rank}
use Rattle.aa_glob_syntax.specs.Patterns.{AreMatching}
use Rattle.aa_glob_syntax.specs.Matching.{matches}
use Rattle.aa_glob_syntax.specs.Reading.{items_of}

-- a pattern that matches ranks as it does among those, and any other has rank 0
rank-matching : (path pattern : List ℕ) → matches (items_of pattern) path ≡ true → rank path pattern ≡ matching_rank pattern
rank-matching path pattern m = rw m refl

rank-unmatched : (path pattern : List ℕ) → matches (items_of pattern) path ≡ false → rank path pattern ≡ 0
rank-unmatched path pattern m = rw m refl

-- the best of all with a rank, and the same step by step
abbrev best-of : List ℕ → ℕ → List (List ℕ) → ℕ
best-of path best patterns = fold (λ best pattern. greater best (rank path pattern)) best patterns

all-least : (path : List ℕ) (top best : ℕ) (patterns : List (List ℕ)) → best ≤ top → ((k : ℕ) (pattern : List ℕ) → slice_get patterns k ≡ Some pattern → rank path pattern ≤ top)
    → best-of path best patterns ≤ top
all-least path top best [] b all = b
all-least path top best (pattern ∷ patterns) b all =
    all-least path top (greater best (rank path pattern)) patterns (greater-least best (rank path pattern) top b (all 0 pattern refl)) (λ k other is. all (suc k) other is)

all-first : (path : List ℕ) (best : ℕ) (patterns : List (List ℕ)) → best ≤ best-of path best patterns
all-first path best [] = omega arith
all-first path best (pattern ∷ patterns) =
    let here = (greater-most best (rank path pattern)).0 in
    let rest = all-first path (greater best (rank path pattern)) patterns in
    omega arith

all-most : (path : List ℕ) (best : ℕ) (patterns : List (List ℕ)) (k : ℕ) (pattern : List ℕ) → slice_get patterns k ≡ Some pattern → rank path pattern ≤ best-of path best patterns
all-most path best [] k pattern is = absurd (cc)
all-most path best (first ∷ patterns) zero pattern is =
    let same : rank path first ≡ rank path pattern = let one : first ≡ pattern = cc in ap (rank path) one in
    let here = (greater-most best (rank path first)).1 in
    let rest = all-first path (greater best (rank path first)) patterns in
    omega arith
all-most path best (first ∷ patterns) (suc k) pattern is = all-most path (greater best (rank path first)) patterns k pattern is

-- the best of those at some places
among-behind : (patterns : List (List ℕ)) (top place : ℕ) (places : List ℕ)
    → ((other : ℕ) (pattern : List ℕ) → Contains (place ∷ places) other → slice_get patterns other ≡ Some pattern → matching_rank pattern ≤ top)
    → ((other : ℕ) (pattern : List ℕ) → Contains places other → slice_get patterns other ≡ Some pattern → matching_rank pattern ≤ top)
among-behind patterns top place places all other pattern (k, within, at) is =
    all other pattern (suc k, (let w : suc k < length (place ∷ places) = omega arith in w), at) is

among-least : (patterns : List (List ℕ)) (top best : ℕ) (places : List ℕ) → best ≤ top
    → ((place : ℕ) (pattern : List ℕ) → Contains places place → slice_get patterns place ≡ Some pattern → matching_rank pattern ≤ top)
    → best_among patterns best places ≤ top
among-least patterns top best [] b all = b
among-least patterns top best (place ∷ places) b all =
    by (slice_get patterns place) refl (λ best b. among-least patterns top best places b (among-behind patterns top place places all))
  where
    by : (found : Option (List ℕ)) → slice_get patterns place ≡ found → ((best : ℕ) → best ≤ top → best_among patterns best places ≤ top)
        → elim found [ None ↦ best_among patterns best places | Some pattern ↦ best_among patterns (greater best (matching_rank pattern)) places ] ≤ top
    by None e rest = rest best b
    by (Some pattern) e rest =
        rest (greater best (matching_rank pattern))
        (greater-least best (matching_rank pattern) top b (all place pattern (0, (let w : 0 < length (place ∷ places) = omega arith in w), refl) e))

among-first : (patterns : List (List ℕ)) (best : ℕ) (places : List ℕ) → best ≤ best_among patterns best places
among-first patterns best [] = omega arith
among-first patterns best (place ∷ places) = by (slice_get patterns place) (λ best. among-first patterns best places)
  where
    by : (found : Option (List ℕ)) → ((best : ℕ) → best ≤ best_among patterns best places)
        → best ≤ elim found [ None ↦ best_among patterns best places | Some pattern ↦ best_among patterns (greater best (matching_rank pattern)) places ]
    by None rest = rest best
    by (Some pattern) rest =
        let here = (greater-most best (matching_rank pattern)).0 in
        let more = rest (greater best (matching_rank pattern)) in
        omega arith

among-most : (patterns : List (List ℕ)) (best : ℕ) (places : List ℕ) (place k : ℕ) (pattern : List ℕ) → slice_get places k ≡ Some place → slice_get patterns place ≡ Some pattern
    → matching_rank pattern ≤ best_among patterns best places
among-most patterns best [] place k pattern at is = absurd (cc)
among-most patterns best (first ∷ places) place zero pattern at is =
    let one : first ≡ place = cc in
    let found : slice_get patterns first ≡ Some pattern = ap (slice_get patterns) one ∙ is in
    let here = (greater-most best (matching_rank pattern)).1 in
    let more = among-first patterns (greater best (matching_rank pattern)) places in
    rw (best_among, found) (omega arith)
among-most patterns best (first ∷ places) place (suc k) pattern at is = by (slice_get patterns first) (λ best. among-most patterns best places place k pattern at is)
  where
    by : (found : Option (List ℕ)) → ((best : ℕ) → matching_rank pattern ≤ best_among patterns best places)
        → matching_rank pattern ≤ elim found [ None ↦ best_among patterns best places | Some other ↦ best_among patterns (greater best (matching_rank other)) places ]
    by None rest = rest best
    by (Some other) rest = rest (greater best (matching_rank other))

rank-below : (patterns : List (List ℕ)) (path places : List ℕ) → AreMatching patterns path places → (k : ℕ) (pattern : List ℕ) → slice_get patterns k ≡ Some pattern
    → (b : Bool) → matches (items_of pattern) path ≡ b → rank path pattern ≤ best_among patterns 0 places
rank-below patterns path places are k pattern is true e =
    let (j, within, at) = (are k).1 (pattern, is, e) in
    let there : slice_get places j ≡ Some k = slice_get-get_or places j k within ∙ ap Some at in
    rw (rank-matching path pattern e) (among-most patterns 0 places k j pattern there is)
rank-below patterns path places are k pattern is false e = rw (rank-unmatched path pattern e) (omega arith)

pub best-matching : (patterns : List (List ℕ)) (path places : List ℕ) → AreMatching patterns path places → best_among patterns 0 places ≡ best_rank path patterns
best-matching patterns path places are =
    let less : best_among patterns 0 places ≤ best-of path 0 patterns =
    among-least patterns (best-of path 0 patterns) 0 places (omega arith)
    (λ place pattern there is.
    let (other, at, m) = (are place).0 there in
    let one : other ≡ pattern = cc in
    let passes : matches (items_of pattern) path ≡ true = rw (sym one) m in
    let most = all-most path 0 patterns place pattern is in
    rw (sym (rank-matching path pattern passes)) most)
    in
    let more : best-of path 0 patterns ≤ best_among patterns 0 places =
    all-least path (best_among patterns 0 places) 0 patterns (omega arith)
    (λ k pattern is. rank-below patterns path places are k pattern is (matches (items_of pattern) path) refl)
    in
    omega arith
