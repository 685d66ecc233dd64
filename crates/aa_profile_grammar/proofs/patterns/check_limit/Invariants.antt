use Rattle.std.proofs.Common.{◌≡◌, ◌≤◌, drop, true}
use Rattle.aa_profile_parsing.specs.SeenTokens.{seen_tokens}
use Rattle.aa_profile_grammar.specs.Patterns.{have_expansions, too_many}
use Rattle.aa_profile_grammar.specs.Limits.{most_rules}
use Rattle.aa_profile_grammar.proofs.patterns.check_limit.Given as goal

-- the tokens so far make so many patterns
abbrev pub invariant-loop-token : goal.invariant-loop-token
invariant-loop-token l = record {
  patterns : too_many l.fn.table l.patterns (seen_tokens (drop l.token-index l.tokens)) ≡ too_many l.fn.table 0 (seen_tokens l.tokens);
  same : l.table ≡ l.fn.table;
  few : l.patterns ≤ most_rules;
  expand : have_expansions l.fn.table (seen_tokens (drop l.token-index l.tokens)) ≡ true;
}
