use Rattle.std.proofs.Common.{◌≤◌, List, ℕ, length, subst, arith}
use Rattle.std.proofs.lemmas.List.{take_all}
use Rattle.std.specs.Prelude.{slice_index_or}
use Rattle.aa_glob_nfa.specs.declared.state.Way.{Way}
use Rattle.aa_glob_pairs.proofs.BelowLemmas.{includes_more}
use Rattle.aa_glob_pairs.specs.Below.{Includes}
use Rattle.aa_glob_nfa.specs.Tables.{LeadsAway}
use Rattle.aa_glob_pairs.specs.declared.below.Below.TheVariants.{Nothing}
use Rattle.aa_glob_pairs.proofs.belows.beside_ways.Goals as goal

pub loop-way-preserved : goal.loop-way-preserved
loop-way-preserved c = record {
  first = λ class covers. c.beside_way-all.ensures.first class (c.loop-way.invariant.first class covers);
  each = includes_more c.args.belows.now c.args.state c.args.ways.now c.loop-way.way-index _ c.loop-way.all c.beside_way-all.result c.loop-way-test.true c.loop-way.invariant.each c.beside_way-all.ensures.first c.beside_way-all.ensures.away;
}

pub returns-clause-away : goal.returns-clause-away
returns-clause-away c =
    let end : length c.args.ways.now ≤ c.loop-way.way-index = omega arith in
    subst (λ (l : List Way). (x : ℕ) → LeadsAway l c.args.state x → Includes c.loop-way.all (slice_index_or c.args.belows.now x Nothing)) (take_all c.loop-way.way-index c.args.ways.now end) c.loop-way.invariant.each
