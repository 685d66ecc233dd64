use Rattle.std.proofs.Common.{◌≡◌, length, map}
use Rattle.aatry_hints.specs.Options.{is_read_ahead_by}
use Rattle.aatry_hints.proofs.options.is_read_ahead_by.Given as goal

-- it is so by what is left where it is so by all
abbrev pub invariant-loop-rest : goal.invariant-loop-rest
invariant-loop-rest l =
    is_read_ahead_by (map (λ name. name.now) l.rest) l.name l.other ≡ is_read_ahead_by (map (λ name. name.now) l.names) l.name l.other

abbrev pub decreases-loop-rest : goal.decreases-loop-rest
decreases-loop-rest l = length l.rest
