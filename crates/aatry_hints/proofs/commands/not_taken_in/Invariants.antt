use Rattle.std.proofs.Common.{◌≡◌, length, map}
use Rattle.std.specs.Prelude.{string_bytes}
use Rattle.aatry_hints.specs.Commands.{not_taken_in}
use Rattle.aatry_hints.specs.Parts.{parts}
use Rattle.aatry_hints.proofs.commands.not_taken_in.Given as goal

-- what is left has the same as all
abbrev pub invariant-loop-part : goal.invariant-loop-part
invariant-loop-part l =
    not_taken_in (map (λ name. name.now) l.own) (parts (map string_bytes l.rest)) ≡ not_taken_in (map (λ name. name.now) l.own) (parts (map string_bytes l.words))

abbrev pub decreases-loop-part : goal.decreases-loop-part
decreases-loop-part l = length l.rest
