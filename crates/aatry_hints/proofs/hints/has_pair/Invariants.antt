use Rattle.std.proofs.Common.{◌≡◌, length, map}
use Rattle.std.specs.Prelude.{string_bytes}
use Rattle.std.specs.List.{list_any}
use Rattle.aatry_hints.specs.Hints.{is_pair}
use Rattle.aatry_hints.proofs.hints.has_pair.Given as goal

-- what is left has it where all do
abbrev pub invariant-loop-rest : goal.invariant-loop-rest
invariant-loop-rest l = list_any is_pair (map string_bytes l.rest) ≡ list_any is_pair (map string_bytes l.words)

abbrev pub decreases-loop-rest : goal.decreases-loop-rest
decreases-loop-rest l = length l.rest
