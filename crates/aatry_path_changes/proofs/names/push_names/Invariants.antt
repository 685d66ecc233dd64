use Rattle.std.proofs.Common.{◌≡◌, ◌++◌, length, map}
use Rattle.aatry_path_changes.proofs.names.push_names.Given as goal

-- those so far, with those that are left, are all
abbrev pub invariant-loop-rest : goal.invariant-loop-rest
invariant-loop-rest l =
    map (λ name. name.items) l.names.items ++ map (λ name. name.now) l.rest ≡ map (λ name. name.items) l.initial.names.items ++ map (λ name. name.now) l.who

abbrev pub decreases-loop-rest : goal.decreases-loop-rest
decreases-loop-rest l = length l.rest
