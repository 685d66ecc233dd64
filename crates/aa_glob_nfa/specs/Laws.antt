-- Properties of visits.
use Rattle.std.specs.Prelude.{◌≡◌, ℕ, List}
use Rattle.aa_glob_nfa.specs.Graphs.{Graph, Reaches}
use Rattle.aa_glob_nfa.specs.Visits.{AreVisits}

-- the visits at the first places of a text have one count, whatever the order of the states at a place
abbrev pub VisitsHaveOneCount : Type 0
VisitsHaveOneCount =
    (g : Graph) (text : List ℕ) (places m n : ℕ)
    → AreVisits (Reaches g) text places m → AreVisits (Reaches g) text places n → m ≡ n
