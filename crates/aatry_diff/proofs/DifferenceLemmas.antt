-- What is found of questions, one by one.
use Rattle.std.proofs.Common.{◌≡◌, ℕ, zero, suc, ◌+◌, Bool, true, false, List, [], ◌∷◌, ◌++◌, drop, refl, ap, ◌∙◌, arith}
use Rattle.std.specs.Prelude.{slice_get}
use Rattle.aa_decide_ready.specs.Entries.{Loaded}
use Rattle.aatry_requests.specs.Tallies.{Tally}
use Rattle.aatry_diff.specs.Differing.{differences, differs}
use Rattle.aatry_diff.specs.code.Steps.{difference_at, difference_if}

module _ (old new : List Loaded) where
  differences-first : (tally : Tally) (tallies : List Tally)
      → differences old new (tally ∷ tallies) ≡ difference_if old new tally ++ differences old new tallies
  differences-first tally tallies = by (differs old new tally) refl
    where
      by : (other : Bool) → differs old new tally ≡ other
          → differences old new (tally ∷ tallies) ≡ difference_if old new tally ++ differences old new tallies
      by true h = rw h refl
      by false h = rw h refl

  differences-from : (tallies : List Tally) (place : ℕ)
      → differences old new (drop place tallies)
      ≡ difference_at old new (slice_get tallies place) ++ differences old new (drop (suc place) tallies)
  differences-from [] zero = refl
  differences-from [] (suc place) = refl
  differences-from (tally ∷ tallies) zero = differences-first tally tallies
  differences-from (tally ∷ tallies) (suc place) = differences-from tallies place

  -- what is found of the question at a place, and of those behind it
  pub differences-step : (tallies : List Tally) (place : ℕ)
      → differences old new (drop place tallies)
      ≡ difference_at old new (slice_get tallies place) ++ differences old new (drop (place + 1) tallies)
  differences-step tallies place =
      let next : suc place ≡ place + 1 = omega arith in
      differences-from tallies place ∙ ap (λ n. difference_at old new (slice_get tallies place) ++ differences old new (drop n tallies)) next
