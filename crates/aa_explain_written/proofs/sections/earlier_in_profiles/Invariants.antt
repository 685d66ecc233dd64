use Rattle.std.proofs.Common.{◌≡◌, length}
use Rattle.aa_explain_written.specs.EarlierRules.{earlier_in_profiles}
use Rattle.aa_explain_written.proofs.sections.earlier_in_profiles.Given as goal

-- those that are left decide
abbrev pub invariant-loop-rest : goal.invariant-loop-rest
invariant-loop-rest l = earlier_in_profiles l.place l.rest l.there ≡ earlier_in_profiles l.place l.profiles l.places

abbrev pub decreases-loop-rest : goal.decreases-loop-rest
decreases-loop-rest l = length l.rest
