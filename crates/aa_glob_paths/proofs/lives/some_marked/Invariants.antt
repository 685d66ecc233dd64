use Rattle.std.proofs.Common.{◌≡◌, false, take}
use Rattle.std.specs.List.{list_any}
use Rattle.aa_glob_paths.specs.Reachable.{is_marked}
use Rattle.aa_glob_paths.proofs.lives.some_marked.Given as goal

abbrev pub invariant-loop-state : goal.invariant-loop-state
invariant-loop-state l = list_any (is_marked l.marks) (take l.state-index l.states) ≡ false
