use Rattle.std.proofs.Common.{◌≡◌, ◌+◌, ◌*◌, ◌^◌, ◌≤◌, length}
use Rattle.std.specs.Prelude.{map, sum}
use Rattle.aa_history.proofs.journal.kept_by.Given as goal

-- what was counted so far, and what is left, are all; and each change that was counted has fewer than 2 ^ 64 parts
abbrev pub invariant-loop-rest : goal.invariant-loop-rest
invariant-loop-rest g l = record {
  all : l.kept + sum (map g.C.Change.parts l.rest) ≡ sum (map g.C.Change.parts l.changes);
  most : l.kept + length l.rest * 2 ^ 64 ≤ length l.changes * 2 ^ 64;
}

abbrev pub decreases-loop-rest : goal.decreases-loop-rest
decreases-loop-rest g l = length l.rest
