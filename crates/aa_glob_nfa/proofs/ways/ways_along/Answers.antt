use Rattle.std.proofs.Common.{rules, ◌≤◌, ◌+◌, ◌*◌}
use Rattle.aa_glob_nfa.proofs.TableLemmas.{bounds_in_order, only_along, each_along}
use Rattle.aa_glob_nfa.proofs.ways.ways_along.Goals as goal

pub slice_bounds-result-count : goal.slice_bounds-result-count
slice_bounds-result-count c =
    bounds_in_order c.args.ways.now (c.args.from * 512 + c.args.by) _ _ c.first_way-start.ensures.within c.first_way-start.ensures.before c.first_way-end.ensures.behind

pub slice_bounds-result-start : goal.slice_bounds-result-start
slice_bounds-result-start c =
    let up : c.first_way-start.result ≤ c.first_way-end.result =
    bounds_in_order c.args.ways.now (c.args.from * 512 + c.args.by) _ _ c.first_way-start.ensures.within c.first_way-start.ensures.before c.first_way-end.ensures.behind in
    search rules

pub returns-clause-only : goal.returns-clause-only
returns-clause-only c =
    let up : c.first_way-start.result ≤ c.first_way-end.result =
    bounds_in_order c.args.ways.now (c.args.from * 512 + c.args.by) _ _ c.first_way-start.ensures.within c.first_way-start.ensures.before c.first_way-end.ensures.behind in
    only_along c.args.ways.now c.args.from c.args.by c.first_way-start.result c.first_way-end.result c.requires.is_number c.requires.each up
    c.first_way-end.ensures.within c.first_way-end.ensures.before c.first_way-start.ensures.behind

pub returns-clause-each : goal.returns-clause-each
returns-clause-each c =
    each_along c.args.ways.now c.args.from c.args.by c.first_way-start.result c.first_way-end.result
    c.first_way-end.ensures.within c.first_way-start.ensures.before c.first_way-end.ensures.behind
