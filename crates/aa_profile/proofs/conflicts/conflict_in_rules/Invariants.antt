use Rattle.std.proofs.Common.{◌≡◌, length, map, true}
use Rattle.aa_profile_rules.specs.SeenRules.{seen_rule}
use Rattle.aa_profile_grammar.specs.PatternTokens.{of_rules}
use Rattle.aa_profile_grammar.specs.Patterns.{are_counted}
use Rattle.aa_profile.specs.code.ConflictProgress.{ReachesRules}
use Rattle.aa_profile.proofs.conflicts.conflict_in_rules.Given as goal

-- no rule so far has the first conflict
abbrev pub invariant-loop-rest : goal.invariant-loop-rest
invariant-loop-rest l = record {
  reached : ReachesRules l.fn.language l.fn.table (map seen_rule l.written) (map seen_rule l.rest) l.on;
  counted : are_counted l.fn.table (of_rules (map seen_rule l.rest)) ≡ true;
  same : l.table ≡ l.fn.table;
}

abbrev pub decreases-loop-rest : goal.decreases-loop-rest
decreases-loop-rest l = length l.rest
