use Rattle.std.proofs.Common.{arith}
use Rattle.aa_glob_nfa.specs.OfTables.{graph_of}
use Rattle.aa_glob_nfa.proofs.RunLemmas.{passing_more, passed}
use Rattle.aa_glob_nfa.proofs.running.pass.Goals as goal

pub loop-at-preserved : goal.loop-at-preserved
loop-at-preserved c =
    let t = c.args.tables.now in
    record {
      passing = passing_more (graph_of t) c.args.byte c.loop-at.at c.state.result c.args.here.now c.loop-at.here c.visit.new.here c.loop-at.next c.visit.new.next
          c.loop-at.invariant.passing (omega (arith, c.len.ensures.len, c.loop-at-test.true)) c.state.ensures.state c.in_ok-visit.ensures.here c.in_ok-visit.ensures.next;
      steps = c.loop-at.invariant.steps;
    }

pub returns-clause-passed : goal.returns-clause-passed
returns-clause-passed c =
    passed (graph_of c.args.tables.now) c.args.byte c.loop-at.at c.args.here.now c.loop-at.here c.loop-at.next c.loop-at.invariant.passing
    (omega (arith, c.len.ensures.len, c.loop-at-test.false)) (omega (arith, c.len.ensures.len, c.len.ensures.within)) c.len.ensures.distinct
