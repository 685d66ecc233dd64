use Rattle.std.proofs.Common.{[]}
use Rattle.aa_glob_nfa.specs.OfTables.{graph_of}
use Rattle.aa_glob_nfa.proofs.RunLemmas.{begun-first}
use Rattle.std.proofs.lemmas.Result.{IfOk-weaker}
use Rattle.aa_glob_nfa.specs.Runs.{IsWhole}
use Rattle.aa_glob_nfa.proofs.following.first.Goals as goal

pub returns-clause-whole : goal.returns-clause-whole
returns-clause-whole c =
    let t = c.args.tables.now in
    IfOk-weaker c.close.result _ (λ states. IsWhole (graph_of t) [] states.items)
    (λ states whole. whole [] (begun-first (graph_of t) c.len.result c.in_ok-here.here c.insert.new.self c.in_ok-here.ensures c.in_ok-insert.ensures))
    c.close.ensures.whole
