use Rattle.std.proofs.Common.{◌≡◌, ◌++◌, length, map, true}
use Rattle.aa_profile_grammar.specs.PatternTokens.{of_rules}
use Rattle.aa_profile_grammar.specs.Patterns.{are_counted}
use Rattle.aa_profile_rules.specs.SeenRules.{seen_rule}
use Rattle.aa_profile_grammar.specs.Places.{places_of_rules}
use Rattle.aa_profile_grammar.proofs.reading.read_rules.Given as goal

-- the places so far, and those of the rest, are all
abbrev pub invariant-loop-rest : goal.invariant-loop-rest
invariant-loop-rest l = record {
  places : l.places.items ++ places_of_rules l.fn.table (map seen_rule l.rest) ≡ places_of_rules l.fn.table (map seen_rule l.rules);
  counted : are_counted l.fn.table (of_rules (map seen_rule l.rest)) ≡ true;
  same : l.table ≡ l.fn.table;
}

abbrev pub decreases-loop-rest : goal.decreases-loop-rest
decreases-loop-rest l = length l.rest
