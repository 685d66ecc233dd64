use Rattle.std.proofs.Common.{◌≡◌, length, map, true}
use Rattle.aa_profile_grammar.specs.SeenFiles.{seen_profile}
use Rattle.aa_profile.specs.Conflicts.{conflict_in_profiles}
use Rattle.aa_profile_grammar.specs.PatternTokens.{of_profiles}
use Rattle.aa_profile_grammar.specs.Patterns.{are_counted}
use Rattle.aa_profile.specs.Profiles.{profile_of}
use Rattle.aa_profile.proofs.conflicts.conflict_in_profiles.Given as goal

-- the rest decides, and the profiles that are left are those that it makes
abbrev pub invariant-loop-rest : goal.invariant-loop-rest
invariant-loop-rest l = record {
  decides : conflict_in_profiles l.fn.language l.fn.table (map seen_profile l.rest) ≡ conflict_in_profiles l.fn.language l.fn.table (map seen_profile l.written);
  made : l.made ≡ map (profile_of l.fn.language l.fn.table) (map seen_profile l.rest);
  counted : are_counted l.fn.table (of_profiles (map seen_profile l.rest)) ≡ true;
  same : l.table ≡ l.fn.table;
}

abbrev pub decreases-loop-rest : goal.decreases-loop-rest
decreases-loop-rest l = length l.rest
