use Rattle.std.proofs.Common.{◌≡◌, length, map}
use Rattle.std.specs.Prelude.{string_bytes}
use Rattle.aatry_hints.specs.Parts.{parts}
use Rattle.aatry_hints.specs.Together.{first_of}
use Rattle.aatry_hints.proofs.together.first_of.Given as goal

-- what is left has the same as all
abbrev pub invariant-loop-part : goal.invariant-loop-part
invariant-loop-part l =
    first_of (map (λ name. name.now) l.names) (parts (map string_bytes l.rest)) ≡ first_of (map (λ name. name.now) l.names) (parts (map string_bytes l.words))

abbrev pub decreases-loop-part : goal.decreases-loop-part
decreases-loop-part l = length l.rest
