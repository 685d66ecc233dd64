use Rattle.std.proofs.Common.{subst}
use Rattle.std.proofs.lemmas.Result.{on_ok_weaker}
use Rattle.aa_explain_start_changes.specs.Starters.{seen_starters}
use Rattle.aa_explain_start_changes.specs.code.Telling.{PutsPair}
use Rattle.aa_explain_start_changes.proofs.PutLemmas.{adds-change}
use Rattle.aa_explain_start_changes.proofs.changes.put_change.Goals as goal

pub returns : goal.returns
returns c =
    on_ok_weaker c.put_pair.result
    (λ puts.
    adds-change (seen_starters c.args.ready.now) c.args.owned c.args.path.now (record { old = c.in_ok-old.old; new = c.in_ok-new.new }) _ _
    c.in_ok-old.ensures c.in_ok-new.ensures
    (subst
    (λ who. PutsPair (seen_starters who) (record { old = c.in_ok-old.old; new = c.in_ok-new.new }) c.args.owned c.args.path.now c.args.changes.now.items c.put_pair.new.changes.items)
    c.ready.view_is puts))
    c.put_pair.ensures
