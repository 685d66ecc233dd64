use Rattle.std.proofs.Common.{map, take}
use Rattle.std.specs.Prelude.{Contains}
use Rattle.aa_glob_run.specs.code.Ends.{Gets}
use Rattle.aa_glob_run.proofs.patterns.push_found.Given as goal

abbrev pub invariant-loop-end : goal.invariant-loop-end
invariant-loop-end l = Gets l.initial.found.items l.found.items (Contains (map (λ e. e.pattern) (take l.end-index l.end-items)))
