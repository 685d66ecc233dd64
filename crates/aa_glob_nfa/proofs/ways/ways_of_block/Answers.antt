use Rattle.std.proofs.Common.{rules, ◌≤◌, ◌-◌, ap, drop}
use Rattle.std.proofs.lemmas.List.Sorted.{IsNonDecreasingBy-drop, IsNonDecreasingBy-take}
use Rattle.std.proofs.lemmas.List.Elements.{All-drop, All-take, Contains-get_or}
use Rattle.std.specs.Prelude.{Contains}
use Rattle.aa_glob_nfa.specs.code.Blocks.{block_of}
use Rattle.aa_glob_nfa.specs.Tables.{order_of}
use Rattle.aa_glob_nfa.proofs.BlockLemmas.{around_block}
use Rattle.aa_glob_nfa.proofs.ListLemmas.{each_by}
use Rattle.aa_glob_nfa.proofs.ways.ways_of_block.Goals as goal

pub slice_bounds-result-count : goal.slice_bounds-result-count
slice_bounds-result-count c =
    (around_block c.args.ways.now c.args.firsts.now (block_of c.args.from) _ _ c.requires.firsts c.place_or-start.ensures c.place_or-end.ensures).up

pub slice_bounds-result-start : goal.slice_bounds-result-start
slice_bounds-result-start c =
    let around = around_block c.args.ways.now c.args.firsts.now (block_of c.args.from) _ _ c.requires.firsts c.place_or-start.ensures c.place_or-end.ensures in
    let up : c.place_or-start.result ≤ c.place_or-end.result = around.up in
    let within = around.within in
    search rules

pub returns-clause-sorted : goal.returns-clause-sorted
returns-clause-sorted c =
    IsNonDecreasingBy-take order_of (c.place_or-end.result - c.place_or-start.result) (drop c.place_or-start.result c.args.ways.now)
    (IsNonDecreasingBy-drop order_of c.place_or-start.result c.args.ways.now c.requires.sorted)

pub returns-clause-only : goal.returns-clause-only
returns-clause-only c =
    let ways = c.args.ways.now in
    All-take (Contains ways) (c.place_or-end.result - c.place_or-start.result) (drop c.place_or-start.result ways)
    (All-drop (Contains ways) c.place_or-start.result ways (λ k d h. Contains-get_or ways k d h))

pub returns-clause-each : goal.returns-clause-each
returns-clause-each c = λ way among is.
    let around = around_block c.args.ways.now c.args.firsts.now (block_of c.args.from) _ _ c.requires.firsts c.place_or-start.ensures c.place_or-end.ensures in
    each_by (λ w. block_of w.from) c.args.ways.now (block_of c.args.from) _ _ around.within around.before around.behind way among (ap block_of is)
