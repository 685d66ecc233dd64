use Rattle.std.proofs.Common.{◌≡◌, ◌+◌, length}
use Rattle.aa_profile_parsing.specs.SeenTokens.{seen_tokens}
use Rattle.aa_profile_parsing.specs.IdleFlags.{flag_count}
use Rattle.aa_profile_parsing.proofs.idle.flag_count.Given as goal

-- those so far, and those of the rest, are all
abbrev pub invariant-loop-rest : goal.invariant-loop-rest
invariant-loop-rest l = record {
  count : l.count + flag_count (seen_tokens l.rest) ≡ flag_count (seen_tokens l.tokens);
  within : l.count + length l.rest ≡ length l.tokens;
}

abbrev pub decreases-loop-rest : goal.decreases-loop-rest
decreases-loop-rest l = length l.rest
