use Rattle.std.proofs.Common.{◌≡◌, ◌++◌, [], ◌∷◌, set, sym, refl, ◌∙◌, ap, ap₂, subst, arith}
use Rattle.aa_glob_nfa.specs.Graphs.{AddsWay}
use Rattle.aa_glob_nfa.specs.OfTables.{graph_of}
use Rattle.aa_glob_nfa.specs.Tables.{State, by_of, graph_in, leading_away, leading_on, state_at}
use Rattle.aa_glob_nfa.specs.declared.state.Way.{Way}
use Rattle.aa_glob_nfa.proofs.SoundLemmas.{OnErr-from, AddsWay-on, AddsWay-push, IsSound-set, IsSound-way, graph_in-set, more_away}
use Rattle.aa_glob_nfa.proofs.tables.Tables.link.Goals as goal

pub overflow_add-from : goal.overflow_add-from
overflow_add-from c = omega (arith, c.requires.from, c.requires.sound.few)

pub returns-then-to-from-clause-sound : goal.returns-then-to-from-clause-sound
returns-then-to-from-clause-sound c =
    let t = c.args.self.now in
    let s : State = leading_on (state_at t.states c.args.from) in
    rw c.lead_on.ensures (IsSound-set t.states t.ways.items t.classes.items t.ends.items c.args.from s c.requires.sound c.requires.from
    (record { gate = refl; flags = λ h. h; ends = λ h. h }) (λ h. omega (arith, c.if-to-from.true, c.requires.to)))

pub returns-then-to-from-clause-added : goal.returns-then-to-from-clause-added
returns-then-to-from-clause-added c =
    let t = c.args.self.now in
    subst (λ states. AddsWay (graph_of t) (graph_in states t.ways.items t.classes.items t.ends.items) c.args.from c.args.to) (sym c.lead_on.ensures)
    (AddsWay-on t.states t.ways.items t.classes.items t.ends.items c.args.from c.args.to c.requires.from c.if-to-from.true)

pub returns-in_err-push-clause-sound : goal.returns-in_err-push-clause-sound
returns-in_err-push-clause-sound c =
    let t = c.args.self.now in
    let old = state_at t.states c.args.from in
    rw (c.lead_away.ensures, c.in_err-push.ensures.items)
    (IsSound-set t.states t.ways.items t.classes.items t.ends.items c.args.from (leading_away old) c.requires.sound c.requires.from
    (more_away old) (λ h. c.requires.sound.on c.args.from h))

pub returns-in_err-push-clause-err : goal.returns-in_err-push-clause-err
returns-in_err-push-clause-err c =
    let t = c.args.self.now in
    let old = state_at t.states c.args.from in
    let same : graph_in c.lead_away.new.self c.push.new.self.items t.classes.items t.ends.items ≡ graph_of t =
    ap₂ (λ states ways. graph_in states ways t.classes.items t.ends.items) c.lead_away.ensures c.in_err-push.ensures.items
    ∙ graph_in-set t.states t.ways.items t.classes.items t.ends.items c.args.from (leading_away old)
    refl refl in
    OnErr-from _ _ same

pub returns-clause-sound : goal.returns-clause-sound
returns-clause-sound c =
    let t = c.args.self.now in
    let way : Way = record { from = c.args.from; by = c.by-by.result; to = c.args.to } in
    rw (c.lead_away.ensures, c.in_ok-push.ensures.items)
    (IsSound-way t.states t.ways.items t.classes.items t.ends.items way c.requires.sound c.requires.from c.requires.to
    (c.by-by.ensures.value ∙ ap by_of c.gate.ensures) c.by-by.ensures.within)

pub returns-clause-added : goal.returns-clause-added
returns-clause-added c =
    let t = c.args.self.now in
    let way : Way = record { from = c.args.from; by = c.by-by.result; to = c.args.to } in
    let old = state_at t.states c.args.from in
    let same : graph_in (set t.states c.args.from (leading_away old)) (t.ways.items ++ way ∷ []) t.classes.items t.ends.items
    ≡ graph_in c.lead_away.new.self c.push.new.self.items t.classes.items t.ends.items =
    ap₂ (λ states ways. graph_in states ways t.classes.items t.ends.items) (sym c.lead_away.ensures) (sym c.in_ok-push.ensures.items) in
    subst (λ g. AddsWay (graph_of t) g c.args.from c.args.to) same
    (AddsWay-push t.states t.ways.items t.classes.items t.ends.items way c.requires.from)
