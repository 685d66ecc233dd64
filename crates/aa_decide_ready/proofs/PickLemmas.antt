-- Places are replaced by what a list has there, one after the other.
use Rattle.std.proofs.Common.{◌≡◌, ℕ, ◌+◌, ◌<◌, ◌≤◌, List, [], ◌∷◌, ◌++◌, drop, get_or, length, set, take, None, Some, sym, ◌∙◌, ap, arith, Option}
use Rattle.std.proofs.lemmas.Grind.{drop_more_same}
use Rattle.std.proofs.lemmas.List.{append_assoc, drop-set-lt, drop_more, length-set, take_more_set}
use Rattle.std.specs.Prelude.{slice_get}
use Rattle.aa_profile_data.specs.Picked.{picked}

-- What is kept so far, with what stands at the other places, is what stands at all.
abbrev pub IsPicked : List ℕ → List ℕ → List ℕ → ℕ → ℕ → Type 0
IsPicked numbers old places at kept =
    (kept ≤ at)
    × (length places ≡ length old)
    × (drop at places ≡ drop at old)
    × (take kept places ++ picked numbers (drop at old) ≡ picked numbers old)

-- what stands at a place, and then what stands at others
abbrev with_found : List ℕ → List ℕ → Option ℕ → List ℕ
with_found numbers places found = elim found [ None ↦ picked numbers places | Some x ↦ x ∷ picked numbers places ]

-- the place that comes next is that of the first list
place-next : (old places : List ℕ) (at : ℕ) → at < length places → length places ≡ length old → drop at places ≡ drop at old → drop at old ≡ get_or places at 0 ∷ drop (at + 1) old
place-next old places at within same left =
    sym left ∙ drop_more places at 0 within ∙ ap (λ ds. get_or places at 0 ∷ ds) (drop_more_same places old at left)

-- a list has a number there
pub picked-some : (numbers old places : List ℕ) (at kept x : ℕ) → at < length places → slice_get numbers (get_or places at 0) ≡ Some x → IsPicked numbers old places at kept
    → IsPicked numbers old (set places kept x) (at + 1) (kept + 1)
picked-some numbers old places at kept x within found is =
    let next = place-next old places at within is.1 is.2 in
    let more : picked numbers (drop at old) ≡ x ∷ picked numbers (drop (at + 1) old) = ap (picked numbers) next ∙ ap (with_found numbers (drop (at + 1) old)) found in (
      omega (arith, is.0),
      length-set places kept x ∙ is.1,
      drop-set-lt (at + 1) places kept x (omega (arith, is.0)) ∙ drop_more_same places old at is.2,
      ap (λ ds. ds ++ picked numbers (drop (at + 1) old)) (take_more_set places kept x (omega (arith, is.0, within)))
          ∙ append_assoc (take kept places) (x ∷ []) (picked numbers (drop (at + 1) old))
          ∙ ap (λ ds. take kept places ++ ds) (sym more) ∙ is.3,
    )

-- or none
pub picked-none : (numbers old places : List ℕ) (at kept : ℕ) → at < length places → slice_get numbers (get_or places at 0) ≡ None → IsPicked numbers old places at kept
    → IsPicked numbers old places (at + 1) kept
picked-none numbers old places at kept within none is =
    let next = place-next old places at within is.1 is.2 in
    let more : picked numbers (drop at old) ≡ picked numbers (drop (at + 1) old) = ap (picked numbers) next ∙ ap (with_found numbers (drop (at + 1) old)) none in (
      omega (arith, is.0),
      is.1,
      drop_more_same places old at is.2,
      ap (λ ds. take kept places ++ ds) (sym more) ∙ is.3,
    )
