use Rattle.std.proofs.Common.{◌≡◌, length, map}
use Rattle.std.specs.List.{list_any}
use Rattle.std.specs.Prelude.{string_bytes}
use Rattle.aatry_hints.specs.Parts.{is_given_as, parts}
use Rattle.aatry_hints.proofs.parts.is_given.Given as goal

-- it is given among what is left where it is among all
abbrev pub invariant-loop-part : goal.invariant-loop-part
invariant-loop-part l =
    list_any (is_given_as l.name) (parts (map string_bytes l.rest)) ≡ list_any (is_given_as l.name) (parts (map string_bytes l.words))

abbrev pub decreases-loop-part : goal.decreases-loop-part
decreases-loop-part l = length l.rest
