use Rattle.std.proofs.Common.{◌≡◌, ◌≤◌, ◌+◌, ◌++◌, length, map}
use Rattle.aa_text_tokens.specs.SeenTokens.{seen}
use Rattle.aatry_uncertain.specs.Heads.{heads_from, outside}
use Rattle.aatry_uncertain.specs.SeenHeads.{seen_heads, seen_place}
use Rattle.aatry_uncertain.proofs.heads.heads_among.Given as goal

-- the heads so far, with those among the tokens that are left, are all; and no more blocks are open than tokens are past
abbrev pub invariant-loop-rest : goal.invariant-loop-rest
invariant-loop-rest l = record {
  found : seen_heads l.heads.items ++ heads_from (seen_place l.place) (map seen l.rest) ≡ heads_from outside (map seen l.tokens);
  within : l.place.depth + length l.rest ≤ length l.tokens;
}

abbrev pub decreases-loop-rest : goal.decreases-loop-rest
decreases-loop-rest l = length l.rest
