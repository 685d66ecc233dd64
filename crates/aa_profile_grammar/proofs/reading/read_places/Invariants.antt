use Rattle.std.proofs.Common.{◌≡◌, ◌++◌, length, map, true}
use Rattle.aa_profile_grammar.specs.SeenFiles.{seen_profile}
use Rattle.aa_profile_grammar.specs.PatternTokens.{of_profiles}
use Rattle.aa_profile_grammar.specs.Patterns.{are_counted}
use Rattle.aa_profile_grammar.specs.Places.{places_of_profile}
use Rattle.aa_profile_grammar.proofs.reading.read_places.Given as goal

-- the places so far, and those of the rest, are all
abbrev pub invariant-loop-rest : goal.invariant-loop-rest
invariant-loop-rest l = record {
  places : l.places.items ++ map (places_of_profile l.language l.fn.table) (map seen_profile l.rest) ≡ map (places_of_profile l.language l.fn.table) (map seen_profile l.profiles);
  counted : are_counted l.fn.table (of_profiles (map seen_profile l.rest)) ≡ true;
  same : l.table ≡ l.fn.table;
}

abbrev pub decreases-loop-rest : goal.decreases-loop-rest
decreases-loop-rest l = length l.rest
