use Rattle.std.proofs.Common.{length, subst, sym}
use Rattle.aa_glob_nfa.specs.OfTables.{graph_of}
use Rattle.aa_glob_nfa.specs.Fronts.{IsLive}
use Rattle.aa_glob_nfa.specs.Runs.{LeadsTo}
use Rattle.aa_glob_run.proofs.memo.Memo.learn.Goals as goal

pub returns-then-is_full-clause-memo : goal.returns-then-is_full-clause-memo
returns-then-is_full-clause-memo c = let t = c.args.tables.now in c.turn_away.ensures (graph_of t) (length t.states) c.requires.memo

pub returns-clause-memo : goal.returns-clause-memo
returns-clause-memo c =
    let t = c.args.tables.now in
    let g = graph_of t in
    c.remember.ensures.memo g (length t.states) c.requires.memo
    (subst (LeadsTo g _ c.args.byte) (sym c.deref.ensures.value) (subst (λ from. LeadsTo g from c.args.byte c.in_ok-states.states.items) c.front.ensures c.in_ok-states.ensures.leads))
    (subst (IsLive (length t.states)) (sym c.deref.ensures.value) c.in_ok-states.ensures.live)
