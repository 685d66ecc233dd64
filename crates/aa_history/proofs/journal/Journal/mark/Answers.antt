use Rattle.std.proofs.Common.{length, subst, sym}
use Rattle.aa_history.specs.Machine.{AreUpTo}
use Rattle.aa_history.proofs.MarkLemmas.{either_way, on_ok, with_number-within}
use Rattle.aa_history.proofs.TimelineLemmas.{kept_marked}
use Rattle.aa_history.proofs.journal.Journal.mark.Goals as goal

pub invariant_of-self : goal.invariant_of-self
invariant_of-self g c =
    let j = c.self.inside in
    let most = length j.changes.items in (
      c.self.invariant.0,
      c.self.invariant.1,
      either_way c.set.result c.set.ensures.ok c.set.ensures.unchanged
          (λ is. subst (AreUpTo most) (sym is) (with_number-within most c.args.name.items j.done j.marks c.self.invariant.2 c.self.invariant.0))
          (λ is. subst (AreUpTo most) (sym is) c.self.invariant.2),
    )

pub returns-clause-ok : goal.returns-clause-ok
returns-clause-ok g c =
    let j = c.self.inside in
    on_ok c.set.result
    (λ is. kept_marked g.C.Change.after g.C.Change.parts j.changes.items j.done (g.C.Change.means j.state) j.marks c.set.new.self c.args.name.items c.args.self.now c.self.invariant.0 is c.self.view_is)
    c.set.ensures.ok
