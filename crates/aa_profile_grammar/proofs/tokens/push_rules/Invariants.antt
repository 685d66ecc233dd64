use Rattle.std.proofs.Common.{◌≡◌, ◌++◌, length, map}
use Rattle.aa_profile_parsing.specs.SeenTokens.{seen_tokens}
use Rattle.aa_profile_rules.specs.SeenRules.{seen_rule}
use Rattle.aa_profile_grammar.specs.PatternTokens.{of_rules}
use Rattle.aa_profile_grammar.proofs.tokens.push_rules.Given as goal

-- the tokens so far, and those of the rest, are all
abbrev pub invariant-loop-rest : goal.invariant-loop-rest
invariant-loop-rest l = seen_tokens l.tokens.items ++ of_rules (map seen_rule l.rest) ≡ seen_tokens l.initial.tokens.items ++ of_rules (map seen_rule l.rules)

abbrev pub decreases-loop-rest : goal.decreases-loop-rest
decreases-loop-rest l = length l.rest
