use Rattle.std.proofs.Common.{ap, ◌∙◌}
use Rattle.std.specs.List.{list_any}
use Rattle.std.specs.Prelude.{is_none}
use Rattle.aa_set_manager.proofs.PartLemmas.{named-absent}
use Rattle.aa_set_manager.proofs.changes.removing.Goals as goal

pub unloading-requires-clause-all : goal.unloading-requires-clause-all
unloading-requires-clause-all c =
    ap (list_any is_none) c.deref.ensures.value
    ∙ named-absent c.in_ok-found.found.items c.args.profiles.now c.indexed.result c.in_ok-found.ensures.found
    ∙ c.in_ok-found.ensures.ok
