use Rattle.std.proofs.Common.{◌∙◌, ap, arith, length}
use Rattle.aa_history.proofs.TimelineLemmas.{length-on, measured_turned, same_kept, went_on, timeline_on}
use Rattle.aa_history.proofs.journal.Journal.step_on.Goals as goal

pub returns : goal.returns
returns g c =
    let j = c.self.inside in
    let set = g.C.Change.means j.state in
    let change = c.index_mut-next.result.now in
    let size = length-on g.C.Change.after j.changes.items j.done set j.marks in
    let some = ap (λ k. length k.machine.later) c.self.view_is in
    same_kept
    (timeline_on g.C.Change.after g.C.Change.back j.changes.items j.done set (g.C.Change.means c.turn.new.state) j.marks change c.turn.new.self
    (g.met.C.Change.returns set change ∙ g.met.C.Change.settled j.state)
    (omega (arith, c.requires)) c.index_mut-next.ensures.value c.turn.ensures.state c.turn.ensures.change)
    (measured_turned g.C.Change.parts j.changes.items j.done change c.turn.new.self c.index_mut-next.ensures.value (ap g.C.Change.parts c.turn.ensures.change ∙ g.met.C.Change.has_as_many set change))
    ∙ went_on 1 c.self.view_is
