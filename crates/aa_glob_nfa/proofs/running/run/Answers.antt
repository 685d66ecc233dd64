use Rattle.std.proofs.Common.{length}
use Rattle.aa_glob_nfa.specs.OfTables.{graph_of}
use Rattle.aa_glob_nfa.proofs.VisitLemmas.{run_started}
use Rattle.aa_glob_nfa.proofs.running.run.Goals as goal

pub returns-clause-whole : goal.returns-clause-whole
returns-clause-whole c =
    c.run_on.ensures.whole c.args.steps.now
    (run_started (graph_of c.args.tables.now) c.args.text.now (length c.args.tables.now.states) c.args.steps.now c.args.here.now c.insert.new.self c.args.next.now
    c.requires.here c.in_ok-insert.ensures c.requires.next)

pub returns-clause-steps : goal.returns-clause-steps
returns-clause-steps c =
    c.run_on.ensures.steps c.args.steps.now
    (run_started (graph_of c.args.tables.now) c.args.text.now (length c.args.tables.now.states) c.args.steps.now c.args.here.now c.insert.new.self c.args.next.now
    c.requires.here c.in_ok-insert.ensures c.requires.next)

pub returns-clause-visits : goal.returns-clause-visits
returns-clause-visits c =
    c.run_on.ensures.visits c.args.steps.now
    (run_started (graph_of c.args.tables.now) c.args.text.now (length c.args.tables.now.states) c.args.steps.now c.args.here.now c.insert.new.self c.args.next.now
    c.requires.here c.in_ok-insert.ensures c.requires.next)

pub returns-clause-all : goal.returns-clause-all
returns-clause-all c =
    c.run_on.ensures.all c.args.steps.now
    (run_started (graph_of c.args.tables.now) c.args.text.now (length c.args.tables.now.states) c.args.steps.now c.args.here.now c.insert.new.self c.args.next.now
    c.requires.here c.in_ok-insert.ensures c.requires.next)

pub returns-clause-first : goal.returns-clause-first
returns-clause-first c =
    c.run_on.ensures.first c.args.steps.now
    (run_started (graph_of c.args.tables.now) c.args.text.now (length c.args.tables.now.states) c.args.steps.now c.args.here.now c.insert.new.self c.args.next.now
    c.requires.here c.in_ok-insert.ensures c.requires.next)
