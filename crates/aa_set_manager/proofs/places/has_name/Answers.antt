use Rattle.std.proofs.Common.{ap, ◌∙◌}
use Rattle.std.specs.Option.{is_some}
use Rattle.aa_decide_ready.proofs.FindLemmas.{found-is}
use Rattle.aa_set_manager.proofs.PlaceLemmas.{some-found}
use Rattle.aa_set_manager.proofs.places.has_name.Goals as goal

pub returns : goal.returns
returns c = c.is_some.ensures ∙ ap is_some (c.slot_named.ensures ∙ found-is c.args.name.now c.args.slots.now) ∙ some-found c.args.name.now c.args.slots.now
