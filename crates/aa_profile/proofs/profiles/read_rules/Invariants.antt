use Rattle.std.proofs.Common.{◌≡◌, ◌++◌, length, map, true}
use Rattle.aa_profile_rules.specs.SeenRules.{seen_rule}
use Rattle.aa_profile_grammar.specs.PatternTokens.{of_rules}
use Rattle.aa_profile.specs.Profiles.{rules_of}
use Rattle.aa_profile_grammar.specs.Patterns.{first_bad, have_expansions}
use Rattle.aa_profile.proofs.profiles.read_rules.Given as goal

-- what was made so far, and what the rest makes, are all, and the rest decides
abbrev pub invariant-loop-rest : goal.invariant-loop-rest
invariant-loop-rest l = record {
  rules : l.rules.items ++ rules_of l.language l.fn.table (map seen_rule l.rest) ≡ rules_of l.language l.fn.table (map seen_rule l.written);
  same : l.table ≡ l.fn.table;
  refusal : first_bad l.fn.table (of_rules (map seen_rule l.rest)) ≡ first_bad l.fn.table (of_rules (map seen_rule l.written));
  expand : have_expansions l.fn.table (of_rules (map seen_rule l.rest)) ≡ true;
}

abbrev pub decreases-loop-rest : goal.decreases-loop-rest
decreases-loop-rest l = length l.rest
