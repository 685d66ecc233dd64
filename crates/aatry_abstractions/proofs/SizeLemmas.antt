-- Abstractions by how many rules they have.
use Rattle.std.proofs.Common.{◌≡◌, ◌∙◌, ◌+◌, Bool, List, [], ◌∷◌, ap, arith, length, map}
use Rattle.std.specs.Prelude.{slice_index_or}
use Rattle.std.specs.Cmp.{IsStrictWeakOrder}
use Rattle.std.specs.List.Sorted.{IsSortedBy}
use Rattle.std.proofs.lemmas.Cmp.{nat_cmp_total}
use Rattle.std.proofs.lemmas.List.{get_or-map, length-map}
use Rattle.std.proofs.lemmas.List.Sorted.{ranks_by}
use Rattle.aatry_abstractions.specs.Letting.{is_narrower}
use Rattle.aatry_abstractions.specs.SeenLetting.{seen_letting}
use Rattle.aatry_abstractions.specs.declared.letting.LettingAbstraction.{LettingAbstraction}

abbrev pub code_narrower : LettingAbstraction → LettingAbstraction → Bool
code_narrower one other = is_narrower (seen_letting one) (seen_letting other)

pub by-size : IsStrictWeakOrder code_narrower
by-size = ranks_by nat_cmp_total (λ found. found.size)

-- what is sorted by them is seen sorted
pub sorted-seen : (all : List LettingAbstraction) → IsSortedBy code_narrower all → IsSortedBy is_narrower (map seen_letting all)
sorted-seen [] sorted = λ place other some within. absurd (omega (arith, within))
sorted-seen (one ∷ more) sorted = λ place other some within.
    let size : length (map seen_letting (one ∷ more)) ≡ length (one ∷ more) = length-map (one ∷ more) seen_letting in
    let next = get_or-map seen_letting (one ∷ more) (place + 1) one other (omega (arith, within, size)) in
    let this = get_or-map seen_letting (one ∷ more) place one other (omega (arith, within, size)) in
    ap (λ w. is_narrower w (slice_index_or (map seen_letting (one ∷ more)) place other)) next
    ∙ ap (is_narrower (seen_letting (slice_index_or (one ∷ more) (place + 1) one))) this
    ∙ sorted place one some (omega (arith, within, size))
