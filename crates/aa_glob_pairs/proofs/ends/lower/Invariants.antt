use Rattle.std.proofs.Common.{take}
use Rattle.aa_glob_pairs.specs.Clashes.{Clash, Lowers}
use Rattle.aa_glob_pairs.proofs.ends.lower.Given as goal

abbrev pub invariant-loop-ending : goal.invariant-loop-ending
invariant-loop-ending l = Lowers l.initial.found l.found (Clash (take l.ending-index l.first) l.second)
