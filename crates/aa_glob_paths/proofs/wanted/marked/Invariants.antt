use Rattle.std.proofs.Common.{◌≡◌, map, take}
use Rattle.aa_glob_paths.specs.Wanted.{has_wanted}
use Rattle.aa_glob_paths.proofs.wanted.marked.Given as goal

abbrev pub invariant-loop-state : goal.invariant-loop-state
invariant-loop-state l = l.wanted.items ≡ map has_wanted (take l.state l.belows)
