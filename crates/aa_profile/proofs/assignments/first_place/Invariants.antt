use Rattle.std.proofs.Common.{◌≡◌, drop, map}
use Rattle.aa_profile.specs.Assignments.{first_of}
use Rattle.aa_profile_grammar.specs.SeenFiles.{seen_assignment}
use Rattle.aa_profile.proofs.assignments.first_place.Given as goal

-- the first is none of the assignments so far
abbrev pub invariant-loop-assignment : goal.invariant-loop-assignment
invariant-loop-assignment l = first_of l.name (map seen_assignment (drop l.assignment-index l.assignments)) ≡ first_of l.name (map seen_assignment l.assignments)
