use Rattle.std.proofs.Common.{◌≡◌, ◌<◌, length, subst, sym}
use Rattle.std.proofs.lemmas.List.Elements.{All-contains, All-weaker}
use Rattle.std.specs.Prelude.{Contains}
use Rattle.aa_glob_nfa.specs.Tables.{IsWay}
use Rattle.aa_glob_nfa.specs.declared.state.Way.{Way}
use Rattle.aa_glob_nfa.specs.declared.state.End.{End}
use Rattle.aa_glob_pairs.proofs.BelowLemmas.{below_is}
use Rattle.aa_glob_pairs.proofs.EndLemmas.{end_is}
use Rattle.aa_glob_pairs.proofs.belows.below_at.Goals as goal

pub of_ends-below-requires : goal.of_ends-below-requires
of_ends-below-requires c =
    let t = c.args.tables.now in
    All-weaker (λ (e : End). Contains t.ends.items e × (e.state ≡ c.args.state)) (λ (e : End). e.pattern < length c.args.classes.now)
    (λ e at. c.requires.classed.each_pattern c.args.state e.pattern (end_is t c.args.state e at.0 at.1)) c.ends_of.result.now c.ends_of.ensures.only

pub beside_ways-requires : goal.beside_ways-requires
beside_ways-requires c =
    let t = c.args.tables.now in
    All-weaker (Contains t.ways.items) (λ (way : Way). way.to < length c.args.belows.now)
    (λ way h. subst (λ n. way.to < n) (sym c.requires.room) (All-contains (IsWay t.states) t.ways.items way c.requires.classed.sound.each_way h).to) c.ways_around.result.now c.ways_around.ensures.only

pub returns : goal.returns
returns c =
    below_is c.args.tables.now c.args.classes.now c.args.belows.now c.args.state c.ends_of.result.now c.ways_around.result.now c.of_ends-below.result c.beside_next-below.result c.beside_ways.result
    c.requires.is_state c.ends_of.ensures.each c.ways_around.ensures.only c.ways_around.ensures.each c.of_ends-below.ensures c.beside_next-below.ensures.first c.beside_next-below.ensures.on
    c.beside_ways.ensures.first c.beside_ways.ensures.away
