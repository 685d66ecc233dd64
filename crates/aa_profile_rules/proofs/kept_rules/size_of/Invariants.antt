use Rattle.std.proofs.Common.{◌≡◌, ◌≤◌, ◌*◌, drop}
use Rattle.aa_profile_parsing.specs.SeenTokens.{seen_tokens}
use Rattle.aa_profile_rules.specs.KeptRules.{and_then, size_behind}
use Rattle.aa_profile_rules.proofs.kept_rules.size_of.Given as goal

-- so many tokens, and those behind them up to the Comma, are all
abbrev pub invariant-loop-at : goal.invariant-loop-at
invariant-loop-at l = record {
  size : and_then l.at (size_behind l.opened l.closed (seen_tokens (drop l.at l.tokens))) ≡ size_behind 0 0 (seen_tokens l.tokens);
  opened : l.opened ≤ l.at * 18446744073709551616;
  closed : l.closed ≤ l.at * 18446744073709551616;
}
