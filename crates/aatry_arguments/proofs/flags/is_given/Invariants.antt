use Rattle.std.proofs.Common.{◌≡◌, length, map, string_bytes}
use Rattle.aatry_arguments.specs.Flags.{is_given}
use Rattle.aatry_arguments.proofs.flags.is_given.Given as goal

-- no word so far decides
abbrev pub invariant-loop-rest : goal.invariant-loop-rest
invariant-loop-rest l = is_given l.flag (map string_bytes l.rest) ≡ is_given l.flag (map string_bytes l.words)

abbrev pub decreases-loop-rest : goal.decreases-loop-rest
decreases-loop-rest l = length l.rest
