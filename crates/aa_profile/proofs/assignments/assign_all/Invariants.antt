use Rattle.std.proofs.Common.{◌≡◌, [], drop, false, map}
use Rattle.std.specs.List.{list_any}
use Rattle.aa_profile.specs.Assignments.{all_assigned, has_no_value}
use Rattle.aa_profile_grammar.specs.SeenFiles.{seen_assignment}
use Rattle.aa_profile.proofs.assignments.assign_all.Given as goal

-- the variables of the assignments so far
abbrev pub invariant-loop-assignment : goal.invariant-loop-assignment
invariant-loop-assignment l = record {
  assigned : all_assigned l.variables (map seen_assignment (drop l.assignment-index l.assignments)) ≡ all_assigned [] (map seen_assignment l.assignments);
  valued : list_any has_no_value (map seen_assignment (drop l.assignment-index l.assignments)) ≡ false;
}
