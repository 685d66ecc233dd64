use Rattle.std.proofs.Common.{◌≡◌, ◌+◌, sym, ◌∙◌}
use Rattle.std.proofs.lemmas.Result.{on_ok_weaker}
use Rattle.aa_glob_nfa.specs.OfTables.{graph_of}
use Rattle.aa_glob_pairs.proofs.MoveLemmas.{gets_led_as}
use Rattle.aa_glob_nfa.specs.Tables.{LeadsOn}
use Rattle.aa_glob_pairs.proofs.moves.lead_on.Goals as goal

pub returns-then-leads_on : goal.returns-then-leads_on
returns-then-leads_on c =
    on_ok_weaker c.add.result
    (λ gets. gets_led_as (graph_of c.args.tables.now) c.args.moves.now c.add.new.moves (λ x. x ≡ c.args.state + 1) (LeadsOn c.args.tables.now.states c.args.state) gets
    (λ x. (λ h. h.1, λ e. (sym c.leads_on.ensures ∙ c.if-leads_on.true, e)))) c.add.ensures
