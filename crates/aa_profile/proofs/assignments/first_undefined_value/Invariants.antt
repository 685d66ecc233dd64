use Rattle.std.proofs.Common.{◌≡◌, drop, map}
use Rattle.aa_profile.specs.code.FileReadingProgress.{first_undefined_value}
use Rattle.aa_profile_grammar.specs.SeenFiles.{seen_assignment}
use Rattle.aa_profile.proofs.assignments.first_undefined_value.Given as goal

-- the first is no value of the assignments so far
abbrev pub invariant-loop-assignment : goal.invariant-loop-assignment
invariant-loop-assignment l =
    first_undefined_value l.variables (map seen_assignment (drop l.assignment-index l.assignments)) ≡ first_undefined_value l.variables (map seen_assignment l.assignments)
