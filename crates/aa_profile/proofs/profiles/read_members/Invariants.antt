use Rattle.std.proofs.Common.{◌≡◌, ◌++◌, length, map, true}
use Rattle.aa_profile_grammar.specs.SeenFiles.{seen_member}
use Rattle.aa_profile_grammar.specs.PatternTokens.{of_members}
use Rattle.aa_profile.specs.Profiles.{children_of, rules_of_members}
use Rattle.aa_profile_grammar.specs.Patterns.{first_bad, have_expansions}
use Rattle.aa_profile.proofs.profiles.read_members.Given as goal

-- what was made so far, and what the rest makes, are all, and the rest decides
abbrev pub invariant-loop-rest : goal.invariant-loop-rest
invariant-loop-rest l = record {
  rules : l.rules.items ++ rules_of_members l.language l.fn.table (map seen_member l.rest) ≡ rules_of_members l.language l.fn.table (map seen_member l.members);
  children : l.children.items ++ children_of l.language l.fn.table (map seen_member l.rest) ≡ children_of l.language l.fn.table (map seen_member l.members);
  same : l.table ≡ l.fn.table;
  refusal : first_bad l.fn.table (of_members (map seen_member l.rest)) ≡ first_bad l.fn.table (of_members (map seen_member l.members));
  expand : have_expansions l.fn.table (of_members (map seen_member l.rest)) ≡ true;
}

abbrev pub decreases-loop-rest : goal.decreases-loop-rest
decreases-loop-rest l = length l.rest
