use Rattle.std.proofs.Common.{◌≡◌, length, map, string_bytes}
use Rattle.std.specs.Option.{option_map}
use Rattle.aatry_arguments.specs.Values.{value_of}
use Rattle.aatry_arguments.specs.SeenValues.{seen_option}
use Rattle.aatry_arguments.specs.code.ValueSoFar.{read_behind}
use Rattle.aatry_arguments.proofs.values.value_of.Given as goal

-- the others so far stand before what the words that are left say
abbrev pub invariant-loop-rest : goal.invariant-loop-rest
invariant-loop-rest l =
    read_behind (seen_option l.fn.option) (map string_bytes l.others.items) (option_map (option_map (λ value. value.items)) l.value) (map string_bytes l.rest)
    ≡ value_of (seen_option l.fn.option) (map string_bytes l.words)

abbrev pub decreases-loop-rest : goal.decreases-loop-rest
decreases-loop-rest l = length l.rest
