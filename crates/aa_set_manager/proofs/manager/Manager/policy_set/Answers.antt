use Rattle.std.proofs.Common.{ap, ◌∙◌}
use Rattle.aa_decide_ready.specs.Named.{have_distinct_names}
use Rattle.aa_set_manager.specs.Manager.{Managed}
use Rattle.aa_set_manager.proofs.ManagerLemmas.{entries-seen, now-distinct}
use Rattle.aa_set_manager.proofs.manager.Manager.policy_set.Goals as goal

pub of-requires : goal.of-requires
of-requires c = ap have_distinct_names (entries-seen c.state.result.now c.self.inside.journal.machine.now c.state.ensures) ∙ now-distinct c.self.inside.journal c.self.invariant

pub returns : goal.returns
returns c = c.of.ensures ∙ entries-seen c.state.result.now c.self.inside.journal.machine.now c.state.ensures ∙ ap (λ (managed : Managed). managed.machine.now) c.self.view_is
