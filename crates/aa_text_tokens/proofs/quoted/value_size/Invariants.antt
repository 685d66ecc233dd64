use Rattle.std.proofs.Common.{◌≡◌, ◌+◌, length}
use Rattle.aa_text_tokens.specs.Cut.{value_size}
use Rattle.aa_text_tokens.proofs.quoted.value_size.Given as goal

-- the bytes so far, and those of the rest, are all
abbrev pub invariant-loop-rest : goal.invariant-loop-rest
invariant-loop-rest l = record {
  value : l.size + value_size l.rest ≡ value_size l.text;
  whole : l.size + length l.rest ≡ length l.text;
}

abbrev pub decreases-loop-rest : goal.decreases-loop-rest
decreases-loop-rest l = length l.rest
