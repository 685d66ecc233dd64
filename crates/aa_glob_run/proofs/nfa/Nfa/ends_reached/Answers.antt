use Rattle.std.proofs.Common.{◌≡◌, ◌+◌, ◌*◌, length, ◌∙◌, ap, sym, subst}
use Rattle.std.specs.Prelude.{IfOk, OnOk}
use Rattle.aa_glob_nfa.specs.Graphs.{Graph, IsFound, Reaches}
use Rattle.aa_glob_nfa.specs.Steps.{IsCounted}
use Rattle.aa_glob_nfa.specs.Visits.{CountsAllVisits}
use Rattle.aa_glob_nfa.proofs.TableLemmas.{length-entries_in}
use Rattle.aa_glob_run.proofs.nfa.Nfa.ends_reached.Goals as goal

pub returns-clause-found : goal.returns-clause-found
returns-clause-found c = subst (λ g. IfOk c.ends.result (λ patterns. IsFound g c.args.text.now patterns.items)) c.self.view_is c.ends.ensures.found

pub returns-clause-steps : goal.returns-clause-steps
returns-clause-steps c =
    let t = c.self.inside.tables in
    let room : length t.states ≡ length c.args.self.now.entries = sym (length-entries_in t.classes.items 0 t.states) ∙ ap (λ g. length g.entries) c.self.view_is in
    subst (λ n. IsCounted 0 ((length c.args.text.now + 1) * n) c.args.steps.now c.ends.new.steps) room c.ends.ensures.steps

pub returns-clause-visits : goal.returns-clause-visits
returns-clause-visits c =
    let t = c.self.inside.tables in
    let room : length t.states ≡ length c.args.self.now.entries = sym (length-entries_in t.classes.items 0 t.states) ∙ ap (λ g. length g.entries) c.self.view_is in
    subst (λ n. OnOk c.ends.result (IsCounted 1 ((length c.args.text.now + 1) * n) c.args.steps.now c.ends.new.steps)) room c.ends.ensures.visits

pub returns-clause-all : goal.returns-clause-all
returns-clause-all c =
    subst (λ (g : Graph). OnOk c.ends.result (CountsAllVisits (Reaches g) c.args.text.now c.args.steps.now c.ends.new.steps)) c.self.view_is c.ends.ensures.all
