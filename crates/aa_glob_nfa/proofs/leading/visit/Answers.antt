use Rattle.std.proofs.lemmas.Result.{on_ok_weaker}
use Rattle.aa_glob_nfa.specs.OfTables.{graph_of}
use Rattle.aa_glob_nfa.specs.Tables.{LeadsOn}
use Rattle.aa_glob_nfa.proofs.LeadLemmas.{enters_all, follows_none, follows_some, still_ready}
use Rattle.aa_glob_nfa.proofs.leading.visit.Goals as goal

pub lead_away-requires-clause-ready : goal.lead_away-requires-clause-ready
lead_away-requires-clause-ready c =
    still_ready c.args.tables.now c.args.byte (LeadsOn c.args.tables.now.states c.args.from) _ _ _ _ c.requires.ready c.in_ok-lead_on.ensures

pub returns-in-Some-clause-here : goal.returns-in-Some-clause-here
returns-in-Some-clause-here c =
    on_ok_weaker c.stay.result (λ _.
    (enters_all c.args.tables.now c.args.byte c.args.from _ _ _ _ _ _ c.requires.is_state c.in_ok-lead_on.ensures c.in_ok-lead_away.ensures).freely) c.stay.ensures

pub returns-in-Some-clause-next : goal.returns-in-Some-clause-next
returns-in-Some-clause-next c =
    on_ok_weaker c.stay.result (follows_some (graph_of c.args.tables.now) c.args.byte c.in-Some.own c.args.from _ _ _ c.in-Some.is
    (enters_all c.args.tables.now c.args.byte c.args.from _ _ _ _ _ _ c.requires.is_state c.in_ok-lead_on.ensures c.in_ok-lead_away.ensures).by_it) c.stay.ensures

pub returns-in-None-clause-here : goal.returns-in-None-clause-here
returns-in-None-clause-here c =
    (enters_all c.args.tables.now c.args.byte c.args.from _ _ _ _ _ _ c.requires.is_state c.in_ok-lead_on.ensures c.in_ok-lead_away.ensures).freely

pub returns-in-None-clause-next : goal.returns-in-None-clause-next
returns-in-None-clause-next c =
    follows_none (graph_of c.args.tables.now) c.args.byte c.args.from _ _ c.in-None.is
    (enters_all c.args.tables.now c.args.byte c.args.from _ _ _ _ _ _ c.requires.is_state c.in_ok-lead_on.ensures c.in_ok-lead_away.ensures).by_it
