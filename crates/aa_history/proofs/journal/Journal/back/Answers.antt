use Rattle.std.proofs.Common.{◌∙◌, ap, sym}
use Rattle.aa_history.specs.Machine.{all_sets}
use Rattle.aa_history.proofs.MarkLawLemmas.{number_keeps}
use Rattle.aa_history.proofs.TimelineLemmas.{found_in_all}
use Rattle.aa_history.proofs.journal.Journal.back.Goals as goal

pub go_to-requires : goal.go_to-requires
go_to-requires g c =
    let j = c.self.inside in
    found_in_all g.C.Change.after g.C.Change.parts j.changes.items j.done (g.C.Change.means j.state) j.marks c.args.name.now c.in-Some.number c.args.self.now
    c.self.invariant.0 c.self.invariant.2 c.self.view_is (sym c.number_of.ensures ∙ c.in-Some.is)

pub returns-in-Some-clause-keeps : goal.returns-in-Some-clause-keeps
returns-in-Some-clause-keeps g c =
    let j = c.self.inside in
    ap (λ kept. all_sets kept.machine) c.go_to.ensures
    ∙ number_keeps c.in-Some.number c.args.self.now.machine
    (found_in_all g.C.Change.after g.C.Change.parts j.changes.items j.done (g.C.Change.means j.state) j.marks c.args.name.now c.in-Some.number c.args.self.now
    c.self.invariant.0 c.self.invariant.2 c.self.view_is (sym c.number_of.ensures ∙ c.in-Some.is))
