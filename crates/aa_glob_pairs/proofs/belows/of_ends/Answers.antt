use Rattle.std.proofs.Common.{◌≤◌, List, length, subst, arith}
use Rattle.std.proofs.lemmas.List.{take_all}
use Rattle.std.specs.Prelude.{Contains}
use Rattle.aa_glob_nfa.specs.declared.state.End.{End}
use Rattle.aa_glob_pairs.proofs.BelowLemmas.{covers_more}
use Rattle.aa_glob_pairs.specs.Below.{Covers}
use Rattle.aa_glob_pairs.specs.Graphs.{class_at}
use Rattle.aa_glob_pairs.proofs.belows.of_ends.Goals as goal

pub loop-end-preserved : goal.loop-end-preserved
loop-end-preserved c =
    covers_more c.args.classes.now c.args.ends.now c.loop-end.end-index _ c.loop-end.below c.with-below.result c.loop-end-test.true c.loop-end.invariant c.with-below.ensures.all c.with-below.ensures.one

pub returns : goal.returns
returns c =
    let end : length c.args.ends.now ≤ c.loop-end.end-index = omega arith in
    subst (λ (l : List End). (e : End) → Contains l e → Covers c.loop-end.below (class_at c.args.classes.now e.pattern)) (take_all c.loop-end.end-index c.args.ends.now end) c.loop-end.invariant
