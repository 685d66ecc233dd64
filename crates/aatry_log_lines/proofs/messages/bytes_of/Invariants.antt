use Rattle.std.proofs.Common.{◌≡◌, ◌++◌, length}
use Rattle.std.specs.Prelude.{option_map}
use Rattle.aatry_log_lines.specs.Messages.{bytes_of}
use Rattle.serde_json.specs.View.{items_view}
use Rattle.aatry_log_lines.proofs.messages.bytes_of.Given as goal

-- the bytes of the values so far, with those of what is left, are all
abbrev pub invariant-loop-rest : goal.invariant-loop-rest
invariant-loop-rest l = option_map (λ more. l.bytes.items ++ more) (bytes_of (items_view l.rest)) ≡ bytes_of (items_view l.values)

abbrev pub decreases-loop-rest : goal.decreases-loop-rest
decreases-loop-rest l = length l.rest
