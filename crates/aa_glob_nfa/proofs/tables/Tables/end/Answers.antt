use Rattle.std.proofs.Common.{◌≡◌, ◌++◌, [], ◌∷◌, set, sym, refl, ◌∙◌, ap₂, subst}
use Rattle.aa_glob_nfa.specs.Graphs.{AddsEnd}
use Rattle.aa_glob_nfa.specs.OfTables.{graph_of}
use Rattle.aa_glob_nfa.specs.Tables.{State, ending, graph_in, state_at}
use Rattle.aa_glob_nfa.specs.declared.state.End.{End}
use Rattle.aa_glob_nfa.proofs.SoundLemmas.{OnErr-from, AddsEnd-push, IsSound-end, IsSound-ending, graph_in-set}
use Rattle.aa_glob_nfa.proofs.tables.Tables.end.Goals as goal

pub returns-in_err-push-clause-sound : goal.returns-in_err-push-clause-sound
returns-in_err-push-clause-sound c =
    let t = c.args.self.now in
    rw (c.end.ensures, c.in_err-push.ensures.items) (IsSound-ending t.states t.ways.items t.classes.items t.ends.items c.args.state c.requires.sound c.requires.is_state)

pub returns-in_err-push-clause-err : goal.returns-in_err-push-clause-err
returns-in_err-push-clause-err c =
    let t = c.args.self.now in
    let s : State = ending (state_at t.states c.args.state) in
    let same : graph_in c.end.new.self t.ways.items t.classes.items c.push.new.self.items ≡ graph_of t =
    ap₂ (λ states ends. graph_in states t.ways.items t.classes.items ends) c.end.ensures c.in_err-push.ensures.items
    ∙ graph_in-set t.states t.ways.items t.classes.items t.ends.items c.args.state s refl refl in
    OnErr-from _ _ same

pub returns-clause-sound : goal.returns-clause-sound
returns-clause-sound c =
    let t = c.args.self.now in
    let end : End = record { state = c.args.state; pattern = c.args.pattern } in
    rw (c.end.ensures, c.in_ok-push.ensures.items) (IsSound-end t.states t.ways.items t.classes.items t.ends.items end c.requires.sound c.requires.is_state)

pub returns-clause-added : goal.returns-clause-added
returns-clause-added c =
    let t = c.args.self.now in
    let end : End = record { state = c.args.state; pattern = c.args.pattern } in
    let s : State = ending (state_at t.states c.args.state) in
    let same : graph_in (set t.states c.args.state s) t.ways.items t.classes.items (t.ends.items ++ end ∷ [])
    ≡ graph_in c.end.new.self t.ways.items t.classes.items c.push.new.self.items =
    ap₂ (λ states ends. graph_in states t.ways.items t.classes.items ends) (sym c.end.ensures) (sym c.in_ok-push.ensures.items) in
    subst (λ g. AddsEnd (graph_of t) g c.args.state c.args.pattern) same
    (AddsEnd-push t.states t.ways.items t.classes.items t.ends.items end)
