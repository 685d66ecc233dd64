-- The rules at the places of those that match a path are those that match it.
use Rattle.std.proofs.Common.{◌≡◌, ℕ, ◌+◌, List, arith, ap}
use Rattle.std.specs.Prelude.{slice_get}
use Rattle.std.specs.List.{filter}
use Rattle.std.specs.List.Sorted.{IsStrictlyIncreasing}
use Rattle.aa_profile_data.specs.declared.profile.Rule.{Rule}
use Rattle.aa_profile_data.proofs.PickedLemmas.{picked-passing, Rises-from}
use Rattle.aa_profile_data.specs.Matching.{AreMatchingRules, is_matching}
use Rattle.aa_profile_data.specs.Picked.{picked}

pub picked-matching : (rules : List Rule) (path places : List ℕ) → AreMatchingRules rules path places → IsStrictlyIncreasing places
    → picked rules places ≡ filter (is_matching path) rules
picked-matching rules path places are rise =
    picked-passing (is_matching path) rules rules 0 places (λ place. let plain : 0 + place ≡ place = omega arith in ap (slice_get rules) plain) (record {
      rise = Rises-from places rise;
      sound = λ place there. (are place).0 there;
      complete = λ place within passes. (are place).1 passes;
    })
