use Rattle.std.proofs.Common.{◌≡◌, length}
use Rattle.aa_explain_written.specs.EarlierRules.{first_opposed}
use Rattle.aa_explain_written.proofs.sections.first_opposed.Given as goal

-- the rules that are left decide
abbrev pub invariant-loop-rest : goal.invariant-loop-rest
invariant-loop-rest l = first_opposed l.refused l.rest l.there ≡ first_opposed l.refused l.rules l.places

abbrev pub decreases-loop-rest : goal.decreases-loop-rest
decreases-loop-rest l = length l.rest
