use Rattle.std.proofs.Common.{◌≡◌, ◌≤◌, ◌+◌, List, length, take, get_or, subst, arith}
use Rattle.std.proofs.lemmas.List.{take_all}
use Rattle.std.proofs.lemmas.List.Elements.{All-get_or}
use Rattle.aa_glob_nfa.specs.OfTables.{graph_of}
use Rattle.aa_glob_nfa.specs.Tables.{IsWay}
use Rattle.aa_glob_nfa.specs.declared.state.Way.{Way}
use Rattle.aa_glob_nfa.proofs.LeavingLemmas.{away_around, away_more, known_ways}
use Rattle.aa_glob_pairs.proofs.MoveLemmas.{gets_led_as, gets_led_then}
use Rattle.aa_glob_pairs.specs.code.Gathered.{GetsLed}
use Rattle.aa_glob_nfa.specs.Tables.{LeadsAway}
use Rattle.aa_glob_pairs.proofs.moves.lead_away.Goals as goal

pub add_if_from-requires-clause-to : goal.add_if_from-requires-clause-to
add_if_from-requires-clause-to c =
    let t = c.args.tables.now in
    let ways = c.ways_around-way-items.result.now in
    let all = known_ways t ways c.requires.sound c.ways_around-way-items.ensures.only in
    (All-get_or (IsWay t.states) ways c.loop-way.way-index _ c.loop-way-test.true all).to

pub loop-way-preserved : goal.loop-way-preserved
loop-way-preserved c =
    let t = c.args.tables.now in
    let ways = c.ways_around-way-items.result.now in
    let i = c.loop-way.way-index in
    let d : Way = record { from = 0; by = 0; to = 0 } in
    gets_led_then (graph_of t) c.args.moves.now c.loop-way.moves c.add_if_from.new.moves (LeadsAway (take i ways) c.args.state)
    (λ x. ((get_or ways i d).from ≡ c.args.state) × (x ≡ (get_or ways i d).to)) (LeadsAway (take (i + 1) ways) c.args.state) c.loop-way.invariant c.in_ok-add_if_from.ensures
    (λ x. away_more ways i d c.args.state x c.loop-way-test.true)

pub returns : goal.returns
returns c =
    let t = c.args.tables.now in
    let ways = c.ways_around-way-items.result.now in
    let end : length ways ≤ c.loop-way.way-index = omega arith in
    gets_led_as (graph_of t) c.args.moves.now c.loop-way.moves (LeadsAway ways c.args.state) (LeadsAway t.ways.items c.args.state)
    (subst (λ (l : List Way). GetsLed (graph_of t) c.args.moves.now c.loop-way.moves (LeadsAway l c.args.state)) (take_all c.loop-way.way-index ways end) c.loop-way.invariant)
    (λ x. away_around t.ways.items ways c.args.state x c.ways_around-way-items.ensures.only c.ways_around-way-items.ensures.each)
