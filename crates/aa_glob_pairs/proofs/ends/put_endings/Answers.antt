use Rattle.std.proofs.Common.{◌≤◌, List, length, refl, subst, arith}
use Rattle.std.proofs.lemmas.List.{take_all}
use Rattle.aa_glob_nfa.specs.declared.state.End.{End}
use Rattle.aa_glob_pairs.proofs.EndLemmas.{end_among, gathered_all, gathered_more, gathered_none}
use Rattle.aa_glob_pairs.specs.code.Gathered.{AreGathered}
use Rattle.aa_glob_pairs.proofs.ends.put_endings.Goals as goal

pub loop-end-init : goal.loop-end-init
loop-end-init c = gathered_none c.args.classes.now c.clear.new.self.items c.clear.ensures.items

pub bounds-classes-end : goal.bounds-classes-end
bounds-classes-end c =
    c.requires.classed.each_pattern c.args.state _ (end_among c.args.tables.now c.args.state c.loop-end.end-index c.ends_of-end-items.result.now _ c.ends_of-end-items.ensures.only c.loop-end-test.true)

pub loop-end-preserved : goal.loop-end-preserved
loop-end-preserved c =
    let ends = c.ends_of-end-items.result.now in
    let classes = c.args.classes.now in
    let d : End = record { state = 0; pattern = 0 } in
    gathered_more classes ends c.loop-end.end-index d c.loop-end.endings.items c.push.new.self.items _ c.loop-end-test.true c.loop-end.invariant refl refl c.in_ok-push.ensures.items

pub returns : goal.returns
returns c =
    let ends = c.ends_of-end-items.result.now in
    let end : length ends ≤ c.loop-end.end-index = omega arith in
    gathered_all c.args.tables.now c.args.classes.now c.args.state ends c.loop-end.endings.items c.ends_of-end-items.ensures.only c.ends_of-end-items.ensures.each
    (subst (λ (l : List End). AreGathered c.args.classes.now l c.loop-end.endings.items) (take_all c.loop-end.end-index ends end) c.loop-end.invariant)
