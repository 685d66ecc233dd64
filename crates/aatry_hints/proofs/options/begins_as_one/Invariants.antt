use Rattle.std.proofs.Common.{◌≡◌, length, map}
use Rattle.aatry_hints.specs.Options.{begins_as_one}
use Rattle.aatry_hints.proofs.options.begins_as_one.Given as goal

-- it is among what is left where it is among all
abbrev pub invariant-loop-rest : goal.invariant-loop-rest
invariant-loop-rest l = begins_as_one (map (λ name. name.now) l.rest) l.word ≡ begins_as_one (map (λ name. name.now) l.names) l.word

abbrev pub decreases-loop-rest : goal.decreases-loop-rest
decreases-loop-rest l = length l.rest
