use Rattle.std.proofs.Common.{◌+◌, ◌^◌, ◌<◌, ◌++◌, [], ◌∷◌, length, ◌∙◌, ap, ap₂, arith}
use Rattle.aa_glob_nfa.specs.Tables.{bare, gate_of, graph_in, sets_in}
use Rattle.aa_glob_nfa.proofs.GrownLemmas.{IsSound-added, IsSound-grown, graph_in-added}
use Rattle.aa_glob_nfa.proofs.TableLemmas.{length-entries_in}
use Rattle.aa_glob_nfa.proofs.tables.Tables.add.Goals as goal

pub returns-in_err-keep_set-clause-sound : goal.returns-in_err-keep_set-clause-sound
returns-in_err-keep_set-clause-sound c =
    let t = c.args.self.now in
    let states = c.in_ok-push.ensures.added ∙ ap (λ gate. t.states ++ bare gate ∷ []) c.of.ensures in
    let few : length t.states + 1 < 2 ^ 32 = omega (arith, c.len-number.ensures, c.if-number.false) in
    rw (states, c.in_err-keep_set.ensures.err) (IsSound-grown t.states t.ways.items t.classes.items t.ends.items (gate_of c.args.entry.now) c.requires few)

pub returns-clause-sound : goal.returns-clause-sound
returns-clause-sound c =
    let t = c.args.self.now in
    let states = c.in_ok-push.ensures.added ∙ ap (λ gate. t.states ++ bare gate ∷ []) c.of.ensures in
    let sets = c.in_ok-keep_set.ensures.ok ∙ ap (λ n. t.classes.items ++ sets_in n c.args.entry.now) c.len-number.ensures in
    let few : length t.states + 1 < 2 ^ 32 = omega (arith, c.len-number.ensures, c.if-number.false) in
    rw (states, sets) (IsSound-added t.states t.ways.items t.classes.items t.ends.items c.args.entry.now c.requires few)

pub returns-clause-number : goal.returns-clause-number
returns-clause-number c =
    let t = c.args.self.now in
    omega (arith, c.len-number.ensures, length-entries_in t.classes.items 0 t.states)

pub returns-clause-added : goal.returns-clause-added
returns-clause-added c =
    let t = c.args.self.now in
    let states = c.in_ok-push.ensures.added ∙ ap (λ gate. t.states ++ bare gate ∷ []) c.of.ensures in
    let sets = c.in_ok-keep_set.ensures.ok ∙ ap (λ n. t.classes.items ++ sets_in n c.args.entry.now) c.len-number.ensures in
    ap₂ (λ states classes. graph_in states t.ways.items classes t.ends.items) states sets
    ∙ graph_in-added t.states t.ways.items t.classes.items t.ends.items c.args.entry.now c.requires.each_class
