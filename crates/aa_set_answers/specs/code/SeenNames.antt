-- Names that the code keeps in order.
use Rattle.std.specs.Prelude.{ℕ, List, map}
use Rattle.std.specs.Borrow.{Bor}
use Rattle.std.specs.BTreeSet.{BTreeSet}

-- names, as lists of bytes
abbrev pub seen_names : BTreeSet (Bor (List ℕ)) → List (List ℕ)
seen_names names = map (λ name. name.now) names.keys
