use Rattle.std.proofs.Common.{rules, ◌≤◌}
use Rattle.aa_glob_nfa.specs.declared.state.End.{End}
use Rattle.aa_glob_nfa.proofs.ListLemmas.{bounds_by, only_by, each_by}
use Rattle.aa_glob_nfa.proofs.tables.ends_at.Goals as goal

pub slice_bounds-result-count : goal.slice_bounds-result-count
slice_bounds-result-count c =
    let d : End = record { state = 0; pattern = 0 } in
    bounds_by (λ e. e.state) c.args.ends.now d c.args.state _ _ c.first_end-start.ensures.within c.first_end-start.ensures.before c.first_end-end.ensures.behind

pub slice_bounds-result-start : goal.slice_bounds-result-start
slice_bounds-result-start c =
    let d : End = record { state = 0; pattern = 0 } in
    let up : c.first_end-start.result ≤ c.first_end-end.result =
    bounds_by (λ e. e.state) c.args.ends.now d c.args.state _ _ c.first_end-start.ensures.within c.first_end-start.ensures.before c.first_end-end.ensures.behind in
    search rules

pub returns-clause-only : goal.returns-clause-only
returns-clause-only c =
    let d : End = record { state = 0; pattern = 0 } in
    let up : c.first_end-start.result ≤ c.first_end-end.result =
    bounds_by (λ e. e.state) c.args.ends.now d c.args.state _ _ c.first_end-start.ensures.within c.first_end-start.ensures.before c.first_end-end.ensures.behind in
    only_by (λ e. e.state) c.args.ends.now c.args.state _ _ up c.first_end-end.ensures.within c.first_end-end.ensures.before c.first_end-start.ensures.behind

pub returns-clause-each : goal.returns-clause-each
returns-clause-each c =
    each_by (λ e. e.state) c.args.ends.now c.args.state _ _ c.first_end-end.ensures.within c.first_end-start.ensures.before c.first_end-end.ensures.behind
