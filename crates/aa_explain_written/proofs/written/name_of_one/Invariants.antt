use Rattle.std.proofs.Common.{◌≡◌, ◌+◌, length, map}
use Rattle.aa_explain_written.specs.Written.{name_of_one}
use Rattle.aa_explain_written.proofs.written.name_of_one.Given as goal

-- none of the names so far is the one, and the first of those that are left stands at the number
abbrev pub invariant-loop-rest : goal.invariant-loop-rest
invariant-loop-rest l = record {
  left : name_of_one l.set l.number (map (λ name. name.now) l.rest) ≡ name_of_one l.set 0 (map (λ name. name.now) l.names);
  at : l.number + length l.rest ≡ length l.names;
}

abbrev pub decreases-loop-rest : goal.decreases-loop-rest
decreases-loop-rest l = length l.rest
