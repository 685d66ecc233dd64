use Rattle.std.proofs.Common.{◌≡◌, ◌≢◌, ◌+◌, ◌*◌, ◌∙◌, [], ap, suc, length, reverse, take, subst, arith}
use Rattle.aa_glob_nfa.specs.Fronts.{Live}
use Rattle.std.proofs.Math.Seq.{take-length}
use Rattle.aa_glob_nfa.specs.Runs.{IsWhole}
use Rattle.aa_glob_nfa.specs.Steps.{IsCounted}
use Rattle.aa_glob_nfa.specs.Visits.{CountsVisits}
use Rattle.aa_glob_nfa.specs.Graphs.{Reaches}
use Rattle.aa_glob_nfa.specs.OfTables.{graph_of}
use Rattle.aa_glob_nfa.proofs.RunLemmas.{counted_some, running_early, running_more, running_end, running_so_far, reverse-longer, whole_early}
use Rattle.aa_glob_nfa.proofs.VisitLemmas.{counts_all, counts_early, counts_first, counts_more}
use Rattle.aa_glob_nfa.proofs.running.run_on.Goals as goal

pub loop-at-preserved : goal.loop-at-preserved
loop-at-preserved c =
    let t = c.args.tables.now in
    let g = graph_of t in
    let at = c.loop-at.at in
    let past = reverse (take at c.args.text.now) in
    let room = length t.states in
    let lives : length c.loop-at.here.states ≢ 0 = omega (arith, c.len.ensures.len, c.if-len-eq0.false) in
    let e = c.in_ok-pass.ensures.passed in
    let one_more : suc at ≡ at + 1 = omega arith in
    record {
      within = omega arith;
      here = ap (λ (l : Live). l.room) c.swap.ensures.x_after ∙ e.next_room ∙ c.loop-at.invariant.here;
      next = c.swap.ensures.y_after ∙ c.clear.ensures ∙ ap (λ r. record { states = []; room = r }) (e.room ∙ c.loop-at.invariant.here);
      run = λ first has.
          let run = c.loop-at.invariant.run first has in
          record {
            running =
                rw (reverse-longer c.args.text.now at 0 c.loop-at-test.true)
                (running_more g past room at _ first c.loop-at.steps c.pass.new.steps c.loop-at.here c.loop-at.next c.pass.new.here c.pass.new.next
                c.clear.new.self c.swap.new.x c.swap.new.y
                run.running lives e c.in_ok-pass.ensures.steps c.clear.ensures c.swap.ensures.x_after c.swap.ensures.y_after);
            counts =
                subst (λ places. CountsVisits (Reaches g) c.args.text.now places first c.pass.new.steps) one_more
                (counts_more g c.args.text.now c.pass.new.here.states at first c.loop-at.steps c.pass.new.steps run.counts
                (e.whole past run.running.begun) e.distinct c.in_ok-pass.ensures.steps);
          };
    }

pub returns-then-len-eq0-clause-whole : goal.returns-then-len-eq0-clause-whole
returns-then-len-eq0-clause-whole c = λ first has.
    let run = c.loop-at.invariant.run first has in
    whole_early (graph_of c.args.tables.now) c.loop-at.at c.args.text.now c.loop-at.here.states run.running.begun (omega (arith, c.len.ensures.len, c.if-len-eq0.true))

pub returns-then-len-eq0-clause-steps : goal.returns-then-len-eq0-clause-steps
returns-then-len-eq0-clause-steps c = λ first has.
    let t = c.args.tables.now in
    let run = c.loop-at.invariant.run first has in
    running_so_far (graph_of t) _ (length t.states) c.loop-at.at (length c.args.text.now) first c.loop-at.steps c.loop-at.here c.loop-at.next run.running c.loop-at.invariant.within

pub returns-then-len-eq0-clause-visits : goal.returns-then-len-eq0-clause-visits
returns-then-len-eq0-clause-visits c = λ first has.
    let t = c.args.tables.now in
    let run = c.loop-at.invariant.run first has in
    running_early (graph_of t) _ (length t.states) c.loop-at.at (length c.args.text.now) first c.loop-at.steps c.loop-at.here c.loop-at.next run.running c.loop-at.invariant.within
    (omega (arith, c.len.ensures.len, c.if-len-eq0.true))

pub returns-then-len-eq0-clause-all : goal.returns-then-len-eq0-clause-all
returns-then-len-eq0-clause-all c = λ first has.
    let run = c.loop-at.invariant.run first has in
    counts_early (graph_of c.args.tables.now) c.args.text.now c.loop-at.here.states c.loop-at.at first c.loop-at.steps c.loop-at.invariant.within
    run.running.begun (omega (arith, c.len.ensures.len, c.if-len-eq0.true)) run.counts

pub returns-then-len-eq0-clause-first : goal.returns-then-len-eq0-clause-first
returns-then-len-eq0-clause-first c = λ first has.
    counts_first (graph_of c.args.tables.now) c.args.text.now c.loop-at.at first c.loop-at.steps (omega (arith, c.loop-at.invariant.within)) (c.loop-at.invariant.run first has).counts

pub returns-in_err-pass-clause-steps : goal.returns-in_err-pass-clause-steps
returns-in_err-pass-clause-steps c = λ first has.
    let t = c.args.tables.now in
    let run = c.loop-at.invariant.run first has in
    rw c.in_err-pass.ensures.err
    (running_so_far (graph_of t) _ (length t.states) c.loop-at.at (length c.args.text.now) first c.loop-at.steps c.loop-at.here c.loop-at.next run.running c.loop-at.invariant.within)

pub returns-in_err-pass-clause-first : goal.returns-in_err-pass-clause-first
returns-in_err-pass-clause-first c = λ first has.
    rw c.in_err-pass.ensures.err
    (counts_first (graph_of c.args.tables.now) c.args.text.now c.loop-at.at first c.loop-at.steps (omega (arith, c.loop-at.invariant.within)) (c.loop-at.invariant.run first has).counts)

pub returns-in_err-pass-2-clause-steps : goal.returns-in_err-pass-2-clause-steps
returns-in_err-pass-2-clause-steps c = λ first has.
    let t = c.args.tables.now in
    let run = c.loop-at.invariant.run first has in
    rw c.in_err-pass-2.ensures.err
    (running_so_far (graph_of t) _ (length t.states) c.loop-at.at (length c.args.text.now) first c.loop-at.steps c.loop-at.here c.loop-at.next run.running c.loop-at.invariant.within)

pub returns-in_err-pass-2-clause-first : goal.returns-in_err-pass-2-clause-first
returns-in_err-pass-2-clause-first c = λ first has.
    rw c.in_err-pass-2.ensures.err
    (counts_first (graph_of c.args.tables.now) c.args.text.now c.loop-at.at first c.loop-at.steps (omega (arith, c.loop-at.invariant.within)) (c.loop-at.invariant.run first has).counts)

pub returns-clause-whole : goal.returns-clause-whole
returns-clause-whole c = λ first has.
    let run = c.loop-at.invariant.run first has in
    let text = c.args.text.now in
    let end : c.loop-at.at ≡ length text = omega (arith, c.loop-at.invariant.within) in
    subst (λ l. IsWhole (graph_of c.args.tables.now) (reverse l) c.pass-2.new.here.states) (ap (λ n. take n text) end ∙ take-length text)
    (c.in_ok-pass-2.ensures.passed.whole (reverse (take c.loop-at.at text)) run.running.begun)

pub returns-clause-visits : goal.returns-clause-visits
returns-clause-visits c = λ first has.
    let t = c.args.tables.now in
    let room = length t.states in
    let run = c.loop-at.invariant.run first has in
    let end : c.loop-at.at ≡ length c.args.text.now = omega (arith, c.loop-at.invariant.within) in
    subst (λ n. IsCounted 1 ((n + 1) * room) first c.pass-2.new.steps) end
    (running_end (graph_of t) _ room c.loop-at.at first c.loop-at.steps c.pass-2.new.steps c.loop-at.here c.loop-at.next c.pass-2.new.here c.pass-2.new.next
    run.running c.in_ok-pass-2.ensures.passed c.in_ok-pass-2.ensures.steps)

pub returns-clause-steps : goal.returns-clause-steps
returns-clause-steps c = λ first has. counted_some _ _ _ (returns-clause-visits c first has)

pub returns-clause-all : goal.returns-clause-all
returns-clause-all c = λ first has.
    let run = c.loop-at.invariant.run first has in
    let end : c.loop-at.at ≡ length c.args.text.now = omega (arith, c.loop-at.invariant.within) in
    counts_all (graph_of c.args.tables.now) c.args.text.now first c.loop-at.steps c.pass-2.new.steps c.loop-at.here c.pass-2.new.here c.pass-2.new.next
    c.loop-at.at end run.running.begun c.in_ok-pass-2.ensures.passed run.counts c.in_ok-pass-2.ensures.steps

pub returns-clause-first : goal.returns-clause-first
returns-clause-first c = λ first has.
    counts_first (graph_of c.args.tables.now) c.args.text.now (suc (length c.args.text.now)) first c.pass-2.new.steps (omega arith) (returns-clause-all c first has)
