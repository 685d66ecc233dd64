use Rattle.std.proofs.Common.{sym, ◌∙◌}
use Rattle.aa_glob_nfa.proofs.LeadLemmas.{none_away}
use Rattle.aa_glob_nfa.proofs.leading.lead_away.Goals as goal

pub returns-else-leads_away : goal.returns-else-leads_away
returns-else-leads_away c =
    none_away c.args.tables.now c.args.byte c.args.from c.args.here.now c.args.next.now c.requires.ready.sound (sym c.leads_away.ensures ∙ c.if-leads_away.false)
