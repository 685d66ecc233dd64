use Rattle.std.proofs.Common.{◌≡◌, ◌++◌, length, map, string_bytes}
use Rattle.aatry_arguments.specs.Flags.{without_flag}
use Rattle.aatry_arguments.proofs.flags.without_flag.Given as goal

-- the others so far, with those of the words that are left, are all
abbrev pub invariant-loop-rest : goal.invariant-loop-rest
invariant-loop-rest l = map string_bytes l.others.items ++ without_flag l.flag (map string_bytes l.rest) ≡ without_flag l.flag (map string_bytes l.words)

abbrev pub decreases-loop-rest : goal.decreases-loop-rest
decreases-loop-rest l = length l.rest
