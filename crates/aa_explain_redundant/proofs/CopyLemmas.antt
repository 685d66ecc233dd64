-- Copies of rules that all match a path, which stand at their places, are the rules that match it.
use Rattle.std.proofs.Common.{◌≡◌, ℕ, zero, suc, ◌+◌, ◌-◌, ◌<◌, ◌≤◌, true, List, [], ◌∷◌, length, length-append, refl, sym, ◌∙◌, ap, inl, inr, arith}
use Rattle.std.proofs.lemmas.Bool.{cases_lt}
use Rattle.std.proofs.lemmas.List.{get_or-append_right, get_or_append_left}
use Rattle.std.proofs.lemmas.List.Elements.{All-contains}
use Rattle.std.proofs.lemmas.Option.{slice_get_within}
use Rattle.std.specs.List.{All}
use Rattle.std.specs.List.Sorted.{IsStrictlyIncreasing}
use Rattle.std.specs.Prelude.{Some, slice_get, slice_index_or}
use Rattle.aa_explain_changes.proofs.LoneLemmas.{at-there}
use Rattle.aa_profile_data.specs.Matching.{AreMatchingRules, is_matching}
use Rattle.aa_profile_data.specs.declared.profile.Rule.{Rule}
use Rattle.aa_explain_redundant.specs.code.Copies.{places_to}

places-length : (count : ℕ) → length (places_to count) ≡ count
places-length zero = refl
places-length (suc count) = omega (arith, length-append (places_to count) (count ∷ []), places-length count)

places-at : (count k d : ℕ) → k < count → slice_index_or (places_to count) k d ≡ k
places-at zero k d low = absurd (omega (arith, low))
places-at (suc count) k d low = elim (cases_lt k count) [
  | inl less ↦
      let within : k < length (places_to count) = omega (arith, less, places-length count) in
      get_or_append_left (places_to count) (count ∷ []) d k within ∙ places-at count k d less
  | inr high ↦
      let same : k ≡ count = omega (arith, low, high) in
      let none : k - count ≡ 0 = omega (arith, same) in
      let enough : count ≤ k = omega (arith, same) in
      get_or-append_right (places_to count) (count ∷ []) count k d (places-length count) enough
      ∙ ap (λ i. slice_index_or (count ∷ []) i d) none ∙ sym same
]

pub places-rise : (count : ℕ) → IsStrictlyIncreasing (places_to count)
places-rise count k within =
    let long = places-length count in
    let low : k + 1 < count = omega (arith, within, long) in
    let less : k < count = omega (arith, low) in
    let one = places-at count k 0 less in
    let next = places-at count (k + 1) 0 low in
    omega (arith, one, next)

-- something stands at each place
stands-there : (rules : List Rule) (place : ℕ) → place < length rules → (rule : Rule) × (slice_get rules place ≡ Some rule)
stands-there [] place low = absurd (omega (arith, low))
stands-there (rule ∷ rules) zero low = (rule, refl)
stands-there (rule ∷ rules) (suc place) low = stands-there rules place (omega (arith, low))

pub copies-match : (path : List ℕ) (rules : List Rule) → All (λ rule. is_matching path rule ≡ true) rules → AreMatchingRules rules path (places_to (length rules))
copies-match path rules match place = (
  (λ at.
      let k = at.0 in
      let low : k < length rules = omega (arith, at.1, places-length (length rules)) in
      let same : place ≡ k = sym at.2 ∙ places-at (length rules) k place low in
      let here : place < length rules = omega (arith, low, same) in
      let found = stands-there rules place here in
      (found.0, found.1, All-contains (λ rule. is_matching path rule ≡ true) rules found.0 match (at-there rules place found.0 found.1))),
  (λ found.
      let low = slice_get_within rules place found.0 found.1 in
      let within : place < length (places_to (length rules)) = omega (arith, low, places-length (length rules)) in
      (place, within, places-at (length rules) place place low)),
)
