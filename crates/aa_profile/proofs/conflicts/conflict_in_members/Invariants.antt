use Rattle.std.proofs.Common.{◌≡◌, length, map, true}
use Rattle.aa_profile_grammar.specs.SeenFiles.{seen_member}
use Rattle.aa_profile_grammar.specs.PatternTokens.{of_members}
use Rattle.aa_profile_grammar.specs.Patterns.{are_counted}
use Rattle.aa_profile.specs.Profiles.{children_of}
use Rattle.aa_profile.specs.code.ConflictProgress.{ReachesMembers}
use Rattle.aa_profile.proofs.conflicts.conflict_in_members.Given as goal

-- no member so far has the first conflict, and the children that are left are those of the rest
abbrev pub invariant-loop-rest : goal.invariant-loop-rest
invariant-loop-rest l = record {
  reached : ReachesMembers l.fn.language l.fn.table (map seen_member l.members) (map seen_member l.rest) l.on;
  children : l.made ≡ children_of l.fn.language l.fn.table (map seen_member l.rest);
  counted : are_counted l.fn.table (of_members (map seen_member l.rest)) ≡ true;
  same : l.table ≡ l.fn.table;
}

abbrev pub decreases-loop-rest : goal.decreases-loop-rest
decreases-loop-rest l = length l.rest
