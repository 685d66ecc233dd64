use Rattle.std.proofs.Common.{◌≡◌, ◌∙◌, None, subst, sym}
use Rattle.aa_explain_reach.specs.Starts.{AreStartsOf}
use Rattle.aa_explain_reach.specs.Unattached.{AreUnattached}
use Rattle.aa_explain_reach.specs.code.LedTo.{not_led_to_from}
use Rattle.aa_explain_reach.proofs.UnattachedLemmas.{are-unattached}
use Rattle.aa_explain_reach.proofs.unattached.unattached_profiles.Goals as goal

pub returns-in_ok-all_not_led_to-in-Some-clause-told : goal.returns-in_ok-all_not_led_to-in-Some-clause-told
returns-in_ok-all_not_led_to-in-Some-clause-told c =
    let slots = c.args.slots.now in
    let starts = c.in-Some.starts.items in
    let are : AreStartsOf slots None starts = rw c.in-Some.is at c.in_ok-starts_of.ensures.told in
    let is : c.in_ok-all_not_led_to-in-Some.field-0.items ≡ not_led_to_from starts 0 slots =
    c.in_ok-all_not_led_to-in-Some.ensures ∙ (λ i. not_led_to_from (c.deref.ensures.value i) 0 (c.as_slice.ensures i)) in
    subst (AreUnattached slots) (sym is) (are-unattached c.which_rank_stands_out.ensures slots starts are)
