use Rattle.std.proofs.Common.{sym, ◌∙◌}
use Rattle.std.proofs.lemmas.Result.{on_ok_weaker}
use Rattle.aa_glob_nfa.proofs.LeadLemmas.{enters_on, none_on}
use Rattle.aa_glob_nfa.proofs.leading.lead_on.Goals as goal

pub returns-then-leads_on : goal.returns-then-leads_on
returns-then-leads_on c =
    on_ok_weaker c.enter.result (enters_on c.args.tables.now c.args.byte c.args.from _ _ _ _ (sym c.leads_on.ensures ∙ c.if-leads_on.true)) c.enter.ensures

pub returns-else-leads_on : goal.returns-else-leads_on
returns-else-leads_on c = none_on c.args.tables.now c.args.byte c.args.from c.args.here.now c.args.next.now (sym c.leads_on.ensures ∙ c.if-leads_on.false)
