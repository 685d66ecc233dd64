use Rattle.std.proofs.Common.{◌≡◌, ◌∙◌, ◌++◌, ◌∷◌, ◌-◌, [], ap, append_assoc, drop, length, refl, subst, sym, take}
use Rattle.aa_explain_reach.proofs.StandLemmas.{ByLength, split-first}
use Rattle.aa_explain_start_changes.specs.Starters.{seen_starters}
use Rattle.aa_explain_start_changes.specs.code.Telling.{AddsChanges}
use Rattle.aa_explain_start_changes.proofs.StandLemmas.{changes-none, changes-then}
use Rattle.aa_explain_start_changes.proofs.asking.changes_by.Goals as goal

pub loop-rest-init : goal.loop-rest-init
loop-rest-init c = ([], refl, changes-none (seen_starters c.args.ready.now) c.new-changes.result.items c.new-changes.ensures.items)

pub loop-rest-preserved : goal.loop-rest-preserved
loop-rest-preserved c =
    let starters = seen_starters c.args.ready.now in
    let outcome = c.outcome-item.result in
    let all = c.loop-rest.rest.now in
    let rest = take (length all - 1) (drop 1 all) in
    let inv = c.loop-rest.invariant in
    let split : all ≡ outcome ∷ rest = split-first all outcome _ c.in-len1-up.len_at_least c.outcome-item.is in
    let whole : inv.0 ++ outcome ∷ rest ≡ c.args.outcomes.now = ap (λ l. inv.0 ++ l) (sym split) ∙ inv.1 in
    let adds = subst (λ p. AddsChanges starters p c.loop-rest.changes.items c.put_changes.new.changes.items) c.deref.ensures.value c.in_ok-put_changes.ensures in (
      inv.0 ++ outcome ∷ [],
      append_assoc inv.0 (outcome ∷ []) rest ∙ whole,
      changes-then starters inv.0 outcome rest c.loop-rest.changes.items c.put_changes.new.changes.items (subst ByLength (sym whole) c.requires.by_length) inv.2 adds,
    )
