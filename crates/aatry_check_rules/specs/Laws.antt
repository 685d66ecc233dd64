-- When two rules were made of one written rule.
use Rattle.std.specs.Prelude.{◌≡◌, ◌⊎◌, ◌↔◌, ℕ, ◌<◌, List, length, slice_get, Option, Some}
use Rattle.aa_text_files.specs.declared.text_error.Place.{Place}
use Rattle.aatry_shared.specs.PartFeatures.{place_at}
use Rattle.aatry_check_rules.specs.Written.{numbers_of}

-- two rules of these numbers are one, or are written at one place
abbrev pub AreOfOneRule : List (Option Place) → ℕ → ℕ → Type 0
AreOfOneRule places one other =
    (one ≡ other) ⊎ ((place : Place) × (place_at places one ≡ Some place) × (place_at places other ≡ Some place))

-- Rules have the same number of a written rule exactly where they were made of one.
abbrev pub NumbersTellWrittenRules : Type 0
NumbersTellWrittenRules =
    (places : List (Option Place)) (one other : ℕ) → one < length places → other < length places
    → (slice_get (numbers_of places) one ≡ slice_get (numbers_of places) other) ↔ AreOfOneRule places one other
