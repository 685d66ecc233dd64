-- Names that are kept with the parts that have them.
use Rattle.std.specs.Prelude.{◌≡◌, ℕ, Bool, List}
use Rattle.std.specs.Borrow.{Bor}
use Rattle.std.specs.BTreeSet.{BTreeSet, contains_by}
use Rattle.std.specs.Cmp.Lexicographic.{slice_cmp}
use Rattle.std.specs.Ordering.{nat_cmp}

-- a name is kept exactly where this test holds
abbrev pub AreNamesOf : BTreeSet (Bor (List ℕ)) → (List ℕ → Bool) → Type 0
AreNamesOf names test = (name : List ℕ) → contains_by (λ kept. slice_cmp nat_cmp name kept.now) names ≡ test name
