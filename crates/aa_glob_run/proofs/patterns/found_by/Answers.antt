use Rattle.std.proofs.Common.{◌≡◌, ◌↔◌, ℕ, length, subst, arith}
use Rattle.std.proofs.lemmas.Option.{slice_get-get_or}
use Rattle.std.specs.Prelude.{Contains}
use Rattle.aa_glob_run.specs.Ends.{IsEndIn}
use Rattle.aa_glob_nfa.specs.OfTables.{graph_of}
use Rattle.aa_glob_run.proofs.PatternLemmas.{ends_more}
use Rattle.aa_glob_run.proofs.patterns.found_by.Goals as goal

pub loop-at-preserved : goal.loop-at-preserved
loop-at-preserved c =
    ends_more (graph_of c.args.tables.now) c.loop-at.at _ c.args.live.now _ _ c.loop-at.invariant
    (slice_get-get_or c.args.live.now c.loop-at.at 0 c.loop-at-test.true) c.in_ok-push_found.ensures

pub returns : goal.returns
returns c =
    let live = c.args.live.now in
    let end : c.loop-at.at ≡ length live = omega arith in
    subst (λ n. (p : ℕ) → Contains c.loop-at.found.items p ↔ IsEndIn (graph_of c.args.tables.now) n live p) end c.loop-at.invariant
