use Rattle.std.proofs.Common.{◌≡◌, ◌≤◌, length}
use Rattle.aa_profile_parsing.specs.SeenTokens.{seen_tokens}
use Rattle.aa_profile_rules.specs.Qualifiers.{qualifiers, unqualified}
use Rattle.aa_profile_rules.proofs.qualifiers.read_qualifiers.Given as goal

-- what was found, and the rest, decide
abbrev pub invariant-loop-rest : goal.invariant-loop-rest
invariant-loop-rest l = record {
  qualifiers : qualifiers l.found (seen_tokens l.rest) ≡ qualifiers unqualified (seen_tokens l.tokens);
  within : length l.rest ≤ length l.tokens;
}

abbrev pub decreases-loop-rest : goal.decreases-loop-rest
decreases-loop-rest l = length l.rest
