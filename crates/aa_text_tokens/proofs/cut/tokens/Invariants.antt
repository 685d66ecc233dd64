use Rattle.std.proofs.Common.{◌≡◌, ◌+◌, false, length, map}
use Rattle.aa_text_tokens.specs.Cut.{cut}
use Rattle.aa_text_tokens.specs.code.Tokens.{with_tokens}
use Rattle.aa_text_tokens.specs.SeenTokens.{seen}
use Rattle.aa_text_tokens.proofs.cut.tokens.Given as goal

-- the tokens so far, and those of the rest, are all
abbrev pub invariant-loop-rest : goal.invariant-loop-rest
invariant-loop-rest l = record {
  tokens : with_tokens (map seen l.tokens.items) (cut l.at 0 l.values l.rest) ≡ cut 0 0 false l.source;
  whole : l.at + length l.rest ≡ length l.source;
}

abbrev pub decreases-loop-rest : goal.decreases-loop-rest
decreases-loop-rest l = length l.rest
