use Rattle.std.proofs.Common.{◌≡◌, ◌≤◌, length}
use Rattle.aa_glob_syntax.specs.Elements.{behind_stars}
use Rattle.aa_glob_syntax.specs.Symbols.{symbols}
use Rattle.aa_glob_syntax.proofs.star.behind_stars.Given as goal

-- the stars so far add nothing
abbrev pub invariant-loop-after : goal.invariant-loop-after
invariant-loop-after l = (behind_stars (symbols l.rest) ≡ behind_stars (symbols l.text)) × (length l.rest ≤ length l.text)

abbrev pub decreases-loop-after : goal.decreases-loop-after
decreases-loop-after l = length l.rest
