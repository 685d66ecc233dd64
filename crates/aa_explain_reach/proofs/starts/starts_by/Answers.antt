use Rattle.std.proofs.Common.{◌≡◌, ◌∙◌, ◌++◌, ◌∷◌, ◌-◌, [], ap, append_assoc, drop, length, refl, subst, sym, take}
use Rattle.std.specs.Option.{option_map}
use Rattle.aa_decide.specs.SeenExec.{seen_asker}
use Rattle.aa_explain_reach.specs.code.Telling.{AddsStarts}
use Rattle.aa_explain_reach.proofs.StandLemmas.{ByLength, split-first, starts-none, starts-then}
use Rattle.aa_explain_reach.proofs.starts.starts_by.Goals as goal

pub loop-rest-init : goal.loop-rest-init
loop-rest-init c =
    ([], refl, starts-none c.args.slots.now (option_map seen_asker c.args.ready.now) c.new-starts.result.items c.new-starts.ensures.items)

pub loop-rest-preserved : goal.loop-rest-preserved
loop-rest-preserved c =
    let slots = c.args.slots.now in
    let asker = option_map seen_asker c.args.ready.now in
    let outcome = c.outcome-item.result in
    let all = c.loop-rest.rest.now in
    let rest = take (length all - 1) (drop 1 all) in
    let inv = c.loop-rest.invariant in
    let split : all ≡ outcome ∷ rest = split-first all outcome _ c.in-len1-up.len_at_least c.outcome-item.is in
    let whole : inv.0 ++ outcome ∷ rest ≡ c.args.outcomes.now = ap (λ l. inv.0 ++ l) (sym split) ∙ inv.1 in
    let adds = subst (λ p. AddsStarts slots asker p c.loop-rest.starts.items c.put_starts.new.starts.items) c.deref.ensures.value c.in_ok-put_starts.ensures in (
      inv.0 ++ outcome ∷ [],
      append_assoc inv.0 (outcome ∷ []) rest ∙ whole,
      starts-then slots asker inv.0 outcome rest c.loop-rest.starts.items c.put_starts.new.starts.items (subst ByLength (sym whole) c.requires.by_length) inv.2 adds,
    )
