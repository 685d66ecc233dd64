use Rattle.std.proofs.Common.{◌≡◌, false, take}
use Rattle.aa_glob_nfa.specs.Fronts.{is_in}
use Rattle.aa_glob_nfa.proofs.front.is_among.Given as goal

abbrev pub invariant-loop-other : goal.invariant-loop-other
invariant-loop-other l = is_in l.state (take l.other-index l.states) ≡ false
