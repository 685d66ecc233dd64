use Rattle.std.proofs.Common.{◌∙◌}
use Rattle.aa_set_manager.proofs.PartLemmas.{named-absent, named-disabled, named-there}
use Rattle.aa_set_manager.proofs.places.is_refused_at.Goals as goal

pub returns-in-Add : goal.returns-in-Add
returns-in-Add c profiles same = rw c.in-Add.is (c.some_are_found.ensures ∙ named-there c.args.found.now profiles c.args.slots.now same)

pub returns-in-Replace : goal.returns-in-Replace
returns-in-Replace c profiles same = rw c.in-Replace.is (c.some_are_disabled_at.ensures ∙ named-disabled c.args.found.now profiles c.args.slots.now same)

pub returns-in-Remove : goal.returns-in-Remove
returns-in-Remove c profiles same = rw c.in-Remove.is (c.some_are_missing.ensures ∙ named-absent c.args.found.now profiles c.args.slots.now same)
