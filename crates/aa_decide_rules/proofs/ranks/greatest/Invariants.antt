use Rattle.std.proofs.Common.{◌≡◌, length}
use Rattle.std.specs.Prelude.{fold}
use Rattle.aa_decide_rules.specs.Ranks.{greater}
use Rattle.aa_decide_rules.specs.StandingOut.{greatest}
use Rattle.aa_decide_rules.proofs.ranks.greatest.Given as goal

-- the greatest so far and the others give that of all
abbrev pub invariant-loop-rest : goal.invariant-loop-rest
invariant-loop-rest l = fold greater l.best l.rest ≡ greatest l.ranks

abbrev pub decreases-loop-rest : goal.decreases-loop-rest
decreases-loop-rest l = length l.rest
