use Rattle.std.proofs.Common.{sym, map, ◌∙◌}
use Rattle.aa_profile_grammar.specs.SeenFiles.{seen_assignment}
use Rattle.aa_profile.proofs.AssignmentLemmas.{cycle-named, cycle-none, cycle-unnamed}
use Rattle.aa_profile.proofs.assignments.check_cycles.Goals as goal

pub returns-in_default-clause-ok : goal.returns-in_default-clause-ok
returns-in_default-clause-ok c = cycle-none c.args.variables.now (map seen_assignment c.args.assignments.now) (sym c.in_ok-at.ensures.ok ∙ c.in_default.is)

pub returns-in-Some-name-clause-refused : goal.returns-in-Some-name-clause-refused
returns-in-Some-name-clause-refused c =
    λ other. rw c.first_place-place.ensures (cycle-named c.args.variables.now (map seen_assignment c.args.assignments.now) c.in-Some.at c.in-Some-name.name.now (sym c.in_ok-at.ensures.ok ∙ c.in-Some.is) c.in-Some-name.ensures)

pub returns-in-None-clause-refused : goal.returns-in-None-clause-refused
returns-in-None-clause-refused c = λ other. cycle-unnamed c.args.variables.now c.in-Some.at (sym c.in_ok-at.ensures.ok ∙ c.in-Some.is) c.in-None.ensures
