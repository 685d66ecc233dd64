-- Policy sets of which each has distinct names.
use Rattle.std.proofs.Common.{◌≡◌, true, List, [], ◌∷◌, ◌++◌}
use Rattle.aa_decide_ready.specs.Entries.{Loaded}
use Rattle.aa_decide_ready.specs.Named.{have_distinct_names}
use Rattle.aa_history.specs.Machine.{Machine, accepted, all_sets}
use Rattle.aa_set_manager.specs.Manager.{AreDistinct}

-- distinct sets, and distinct sets behind them
distinct-append : (xs ys : List (List Loaded)) → AreDistinct xs → AreDistinct ys → AreDistinct (xs ++ ys)
distinct-append [] ys p q = q
distinct-append (x ∷ xs) ys p q = (p.0, distinct-append xs ys p.1 q)

distinct-front : (xs ys : List (List Loaded)) → AreDistinct (xs ++ ys) → AreDistinct xs
distinct-front [] ys p = tt
distinct-front (x ∷ xs) ys p = (p.0, distinct-front xs ys p.1)

pub distinct-behind : (xs ys : List (List Loaded)) → AreDistinct (xs ++ ys) → AreDistinct ys
distinct-behind [] ys p = p
distinct-behind (x ∷ xs) ys p = distinct-behind xs ys p.1

-- distinct sets stay so where one more is accepted
pub accepted-distinct : (machine : Machine (List Loaded)) (set : List Loaded) → AreDistinct (all_sets machine) → have_distinct_names set ≡ true → AreDistinct (all_sets (accepted machine set))
accepted-distinct machine set h d =
    let now = distinct-behind machine.earlier (machine.now ∷ machine.later) h in
    distinct-append (machine.earlier ++ machine.now ∷ []) (set ∷ [])
    (distinct-append machine.earlier (machine.now ∷ []) (distinct-front machine.earlier (machine.now ∷ machine.later) h) (now.0, tt)) (d, tt)
