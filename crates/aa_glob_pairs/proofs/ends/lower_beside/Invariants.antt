use Rattle.std.proofs.Common.{take, [], ◌∷◌}
use Rattle.aa_glob_pairs.specs.Clashes.{Clash, Lowers}
use Rattle.aa_glob_pairs.proofs.ends.lower_beside.Given as goal

abbrev pub invariant-loop-other : goal.invariant-loop-other
invariant-loop-other l = Lowers l.initial.found l.found (Clash (l.ending ∷ []) (take l.other-index l.second))
