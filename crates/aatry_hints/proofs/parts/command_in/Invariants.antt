use Rattle.std.proofs.Common.{◌≡◌, length, map}
use Rattle.std.specs.Prelude.{string_bytes}
use Rattle.aatry_hints.specs.Parts.{command_in, parts}
use Rattle.aatry_hints.proofs.parts.command_in.Given as goal

-- what is left has the same as all
abbrev pub invariant-loop-part : goal.invariant-loop-part
invariant-loop-part l = command_in (parts (map string_bytes l.rest)) ≡ command_in (parts (map string_bytes l.words))

abbrev pub decreases-loop-part : goal.decreases-loop-part
decreases-loop-part l = length l.rest
