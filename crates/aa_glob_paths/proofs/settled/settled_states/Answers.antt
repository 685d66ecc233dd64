use Rattle.std.proofs.Common.{not, ◌∙◌, ◌∷◌, [], length, length-append, ap, subst, sym, true≢false, arith}
use Rattle.aa_glob_nfa.specs.OfTables.{graph_of}
use Rattle.aa_glob_paths.specs.Settled.{MarksSettled}
use Rattle.aa_glob_paths.proofs.SettledLemmas.{marks-more}
use Rattle.aa_glob_paths.proofs.settled.settled_states.Goals.{then-not-has_none, else-not-has_none}
use Rattle.aa_glob_paths.proofs.settled.settled_states.Goals as goal

pub loop-state-preserved : goal.loop-state-preserved
loop-state-preserved c =
    let g = graph_of c.args.tables.now in
    let classes = c.args.classes.now in
    let at = c.loop-state.state in
    let old = c.loop-state.settled.items in
    let count = c.loop-state.invariant.count in
    let more = length-append old (c.if-not-has_none.push ∷ []) in
    let items = c.in_ok-push.ensures.items in
    record {
      count = omega (arith, ap length items, more, count);
      marks = subst (MarksSettled g classes) (sym items) (marks-more g classes old c.if-not-has_none.push at count c.loop-state.invariant.marks (λ is.
          elim c.if-not-has_none.branch [
            | then-not-has_none w ↦
                let found = w.stays_passed_over.ensures (sym w.push-is ∙ is) in
                record { stays = found.stays; no_zero = c.takes_zero-has_none.ensures w.if-not-has_none.true; ends = found.ends }
            | else-not-has_none w ↦ absurd (true≢false (sym is ∙ w.push-is ∙ ap not w.if-not-has_none.false))
          ]));
    }

pub returns : goal.returns
returns c = record {
  count = omega (arith, c.len-count.ensures, c.loop-state-test.false, c.loop-state.invariant.count, c.loop-state.auto.state-end);
  settled = c.loop-state.invariant.marks;
}
