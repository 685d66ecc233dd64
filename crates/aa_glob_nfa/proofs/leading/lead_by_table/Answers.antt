use Rattle.std.proofs.lemmas.Result.{on_ok_weaker}
use Rattle.aa_glob_nfa.specs.Tables.{LeadsAway}
use Rattle.aa_glob_nfa.proofs.LeadLemmas.{enters_away, still_ready}
use Rattle.aa_glob_nfa.proofs.LeavingLemmas.{known_ways}
use Rattle.aa_glob_nfa.proofs.leading.lead_by_table.Goals as goal

pub lead_by-requires-clause-each : goal.lead_by-requires-clause-each
lead_by-requires-clause-each c = known_ways c.args.tables.now _ c.requires.sound c.leaving-leaving.ensures.only_any

pub lead_by-requires-2-clause-each : goal.lead_by-requires-2-clause-each
lead_by-requires-2-clause-each c = known_ways c.args.tables.now _ c.requires.sound c.leaving-leaving.ensures.only_own

pub lead_by-requires-2-clause-ready : goal.lead_by-requires-2-clause-ready
lead_by-requires-2-clause-ready c =
    still_ready c.args.tables.now c.args.byte (LeadsAway c.leaving-leaving.result.any.now c.args.from) _ _ _ _ c.requires c.in_ok-lead_by.ensures

pub returns : goal.returns
returns c =
    on_ok_weaker c.lead_by-2.result
    (enters_away c.args.tables.now c.args.byte c.args.from _ _ _ _ _ _ _ _ c.requires.sound c.leaving-leaving.ensures c.in_ok-lead_by.ensures) c.lead_by-2.ensures
