use Rattle.std.proofs.Common.{◌≡◌, ◌+◌, length}
use Rattle.aa_text_tokens.proofs.SizeLemmas.{further}
use Rattle.aa_text_tokens.specs.Cut.{before_quote}
use Rattle.aa_text_tokens.proofs.quoted.before_quote.Given as goal

-- the bytes so far, and those of the rest, are all
abbrev pub invariant-loop-rest : goal.invariant-loop-rest
invariant-loop-rest l = record {
  value : further l.size (before_quote l.rest) ≡ before_quote l.text;
  whole : l.size + length l.rest ≡ length l.text;
}

abbrev pub decreases-loop-rest : goal.decreases-loop-rest
decreases-loop-rest l = length l.rest
