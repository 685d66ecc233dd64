-- The answer for written rules that are tried.
use Rattle.std.specs.Prelude.{ℕ, List, Option, None, Some, Vec}
use Rattle.aa_glob_paths.specs.TooMany.{AreMoreTextsThan}
use Rattle.aa_explain_redundant.specs.Left.{WrittenRules}
use Rattle.aa_explain_redundant.specs.Redundant.{AreToldOf}
use Rattle.aa_explain_redundant.specs.Trying.{trying_patterns}

-- These decide nothing, all together, and each of the others does; or there is no answer, and the patterns read more texts than the limit
-- differently.
abbrev pub IsAnswerOf : {A : Type 0} → WrittenRules → List ℕ → ℕ → Option (Vec ℕ A) → Type 0
IsAnswerOf rules tried limit None = AreMoreTextsThan (trying_patterns rules tried) limit
IsAnswerOf rules tried limit (Some told) = AreToldOf rules tried told.items
