use Rattle.std.proofs.Common.{◌≡◌, ◌≤◌, length}
use Rattle.aa_profile_parsing.specs.SeenTokens.{seen_tokens}
use Rattle.aa_profile_parsing.specs.Flags.{flags, flags_behind}
use Rattle.aa_profile_parsing.proofs.flags.read_flags.Given as goal

-- what was found, and the rest, decide
abbrev pub invariant-loop-rest : goal.invariant-loop-rest
invariant-loop-rest l = record {
  flags : flags_behind l.language l.found (seen_tokens l.rest) ≡ flags l.language (seen_tokens l.tokens);
  within : length l.rest ≤ length l.tokens;
}

abbrev pub decreases-loop-rest : goal.decreases-loop-rest
decreases-loop-rest l = length l.rest
