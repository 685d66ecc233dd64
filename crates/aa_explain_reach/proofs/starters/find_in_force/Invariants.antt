use Rattle.std.proofs.Common.{◌≡◌, drop}
use Rattle.aa_decide.specs.Exec.{named_in_force}
use Rattle.aa_decide_ready.specs.Slots.{filled}
use Rattle.aa_explain_reach.proofs.starters.find_in_force.Given as goal

-- the profile is in none of the slots so far
abbrev pub invariant-loop-place : goal.invariant-loop-place
invariant-loop-place l = named_in_force l.name (filled (drop l.place l.slots)) ≡ named_in_force l.name (filled l.slots)
