use Rattle.std.proofs.Common.{◌≡◌, ◌+◌, length}
use Rattle.aa_text_expansion.specs.code.TextParts.{plain_size}
use Rattle.aa_text_expansion.proofs.parts.stepped_size.Given as goal

-- the bytes so far, and those of the rest, are all
abbrev pub invariant-loop-rest : goal.invariant-loop-rest
invariant-loop-rest l = (plain_size l.text ≡ l.size + plain_size l.rest) × (l.size + length l.rest ≡ length l.text)

abbrev pub decreases-loop-rest : goal.decreases-loop-rest
decreases-loop-rest l = length l.rest
