-- The report on a written rule by paths that stand for all that it matches.
use Rattle.std.specs.Prelude.{ℕ, List, [], ◌∷◌, Option, None, Some}
use Rattle.aa_explain_redundant.specs.Left.{Numbered}
use Rattle.aa_explain_redundant.specs.Examples.{Overlap, overlap_on}

-- the example by the first of some paths, if there is one
abbrev pub example_by : List Numbered → List ℕ → ℕ → List (List ℕ) → Option Overlap
example_by rules gone number [] = None
example_by rules gone number (path ∷ paths) = Some (overlap_on rules gone number path)
