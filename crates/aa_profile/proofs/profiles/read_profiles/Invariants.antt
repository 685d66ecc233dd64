use Rattle.std.proofs.Common.{◌≡◌, ◌++◌, length, map, true}
use Rattle.aa_profile_grammar.specs.SeenFiles.{seen_profile}
use Rattle.aa_profile_grammar.specs.PatternTokens.{of_profiles}
use Rattle.aa_profile.specs.Profiles.{profile_of}
use Rattle.aa_profile_grammar.specs.Patterns.{first_bad, have_expansions}
use Rattle.aa_profile.proofs.profiles.read_profiles.Given as goal

-- what was made so far, and what the rest makes, are all, and the rest decides
abbrev pub invariant-loop-rest : goal.invariant-loop-rest
invariant-loop-rest l = record {
  profiles : l.profiles.items ++ map (profile_of l.language l.fn.table) (map seen_profile l.rest) ≡ map (profile_of l.language l.fn.table) (map seen_profile l.written);
  same : l.table ≡ l.fn.table;
  refusal : first_bad l.fn.table (of_profiles (map seen_profile l.rest)) ≡ first_bad l.fn.table (of_profiles (map seen_profile l.written));
  expand : have_expansions l.fn.table (of_profiles (map seen_profile l.rest)) ≡ true;
}

abbrev pub decreases-loop-rest : goal.decreases-loop-rest
decreases-loop-rest l = length l.rest
