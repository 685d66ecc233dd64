use Rattle.std.proofs.Common.{sym, ◌∙◌}
use Rattle.std.proofs.lemmas.Result.{on_ok_weaker}
use Rattle.aa_glob_nfa.specs.OfTables.{graph_of}
use Rattle.aa_glob_nfa.proofs.LeadLemmas.{one_by_it, one_freely, one_not}
use Rattle.aa_glob_nfa.proofs.leading.enter.Goals as goal

pub returns-then-is_free : goal.returns-then-is_free
returns-then-is_free c =
    on_ok_weaker c.insert.result (one_freely (graph_of c.args.tables.now) c.args.byte c.args.number c.args.here.now _ c.args.next.now (sym c.is_free.ensures ∙ c.if-is_free.true))
    c.insert.ensures

pub returns-then-takes_if : goal.returns-then-takes_if
returns-then-takes_if c =
    on_ok_weaker c.insert-then-takes_if.result (one_by_it (graph_of c.args.tables.now) c.args.byte c.args.number c.args.here.now c.args.next.now _ (sym c.is_free.ensures ∙ c.if-is_free.false)
    (sym c.takes_if.ensures ∙ c.if-takes_if.true)) c.insert-then-takes_if.ensures

pub returns-else-takes_if : goal.returns-else-takes_if
returns-else-takes_if c =
    one_not (graph_of c.args.tables.now) c.args.byte c.args.number c.args.here.now c.args.next.now (sym c.is_free.ensures ∙ c.if-is_free.false)
    (sym c.takes_if.ensures ∙ c.if-takes_if.false)
