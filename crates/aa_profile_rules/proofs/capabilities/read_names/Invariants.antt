use Rattle.std.proofs.Common.{◌≡◌, ◌≤◌, length}
use Rattle.aa_profile_parsing.specs.SeenTokens.{seen_tokens}
use Rattle.aa_profile_rules.specs.Capabilities.{named_capabilities}
use Rattle.aa_profile_rules.proofs.capabilities.read_names.Given as goal

-- the set so far, and the rest, decide
abbrev pub invariant-loop-rest : goal.invariant-loop-rest
invariant-loop-rest l = record {
  capabilities : named_capabilities l.set (seen_tokens l.rest) ≡ named_capabilities 0 (seen_tokens l.tokens);
  within : length l.rest ≤ length l.tokens;
}

abbrev pub decreases-loop-rest : goal.decreases-loop-rest
decreases-loop-rest l = length l.rest
