-- Names in order.
use Rattle.std.proofs.Common.{◌+◌, ◌<◌, List, [], ◌∷◌, length, arith}
use Rattle.std.specs.Prelude.{String, map, string_bytes}
use Rattle.std.specs.Cmp.Lexicographic.{slice_cmp}
use Rattle.std.specs.List.Sorted.{IsSorted}
use Rattle.std.specs.Ordering.{nat_cmp}
use Rattle.std.specs.String.{string_cmp}
use Rattle.std.proofs.lemmas.List.{get_or-map, length-map}

-- strings in order hold names in order
pub IsSorted-texts : {A : Type 0} (items : List (String A)) → IsSorted string_cmp items → IsSorted (slice_cmp nat_cmp) (map string_bytes items)
IsSorted-texts [] sorted k d from within = absurd (omega (arith, within))
IsSorted-texts (first ∷ items) sorted k d from within =
    let all = first ∷ items in
    let inside : k + 1 < length all = omega (arith, within, length-map all string_bytes) in
    rw (get_or-map string_bytes all (k + 1) first d inside, get_or-map string_bytes all k first d (omega (arith, inside))) (sorted k first from inside)
