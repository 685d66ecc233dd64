use Rattle.std.proofs.Common.{◌≡◌, ◌++◌, length, map, true}
use Rattle.aa_profile_grammar.specs.SeenFiles.{seen_member}
use Rattle.aa_profile_grammar.specs.PatternTokens.{of_members}
use Rattle.aa_profile_grammar.specs.Patterns.{are_counted}
use Rattle.aa_profile_grammar.specs.Places.{places_in_members, places_of_members}
use Rattle.aa_profile_grammar.proofs.reading.push_members.Given as goal

-- the places so far, and those of the rest, are all
abbrev pub invariant-loop-rest : goal.invariant-loop-rest
invariant-loop-rest l = record {
  places : l.places.items ++ places_of_members l.fn.table (map seen_member l.rest)
      ≡ l.initial.places.items ++ places_of_members l.fn.table (map seen_member l.members);
  children : l.children.items ++ places_in_members l.language l.fn.table (map seen_member l.rest)
      ≡ l.initial.children.items ++ places_in_members l.language l.fn.table (map seen_member l.members);
  counted : are_counted l.fn.table (of_members (map seen_member l.rest)) ≡ true;
  same : l.table ≡ l.fn.table;
}

abbrev pub decreases-loop-rest : goal.decreases-loop-rest
decreases-loop-rest l = length l.rest
