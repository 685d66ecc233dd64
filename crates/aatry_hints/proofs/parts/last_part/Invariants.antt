use Rattle.std.proofs.Common.{◌≡◌, length, map}
use Rattle.std.specs.Prelude.{None, option_map, string_bytes}
use Rattle.aatry_hints.specs.Parts.{last_behind, parts}
use Rattle.aatry_hints.specs.Seen.{seen_part}
use Rattle.aatry_hints.proofs.parts.last_part.Given as goal

-- behind the last so far, what is left has the same as all
abbrev pub invariant-loop-part : goal.invariant-loop-part
invariant-loop-part l = last_behind (option_map seen_part l.last) (parts (map string_bytes l.rest)) ≡ last_behind None (parts (map string_bytes l.words))

abbrev pub decreases-loop-part : goal.decreases-loop-part
decreases-loop-part l = length l.rest
