use Rattle.std.proofs.Common.{◌≡◌, ◌++◌, ◌+◌, ◌∷◌, ◌∙◌, [], List, ℕ, ap, arith, length, subst, sym, take}
use Rattle.std.specs.Prelude.{replicate}
use Rattle.std.proofs.lemmas.List.{length-take-le, take_more}
use Rattle.aa_glob.specs.Built.{IsBuilt}
use Rattle.aa_decide_ready.specs.Indexes.{all_attachments, owners_from}
use Rattle.aa_decide_ready.proofs.AttachmentLemmas.{all-more, owners-more}
use Rattle.aa_decide_ready.proofs.attachments.AttachmentIndex.of.Goals as goal

pub loop-place-preserved : goal.loop-place-preserved
loop-place-preserved c =
    let slots = c.args.slots.now in
    let place = c.loop-place.place in
    let slot = c.index-slots-place.result in
    let before = take place slots in
    let more = ap (λ s. before ++ s ∷ []) c.index-slots-place.is ∙ sym (take_more slots place slot c.loop-place-test.true) in
    let long = length-take-le place slots (omega arith) in
    let same : 0 + length before ≡ place = omega arith in record {
      built = subst (λ (l : List (List ℕ)). IsBuilt c.in_ok-builder-2.builder l)
          (ap (λ l. all_attachments before ++ l) c.attachments_in-attachments.ensures ∙ sym (all-more before slot) ∙ ap all_attachments more)
          (c.in_ok-builder-2.ensures (all_attachments before) c.loop-place.invariant.built);
      owners = c.in_ok-push_owner.ensures
          ∙ ap (λ l. l ++ replicate (length c.attachments_in-attachments.result.now) place) c.loop-place.invariant.owners
          ∙ (λ i. owners_from 0 before ++ replicate (length (c.attachments_in-attachments.ensures i)) (sym same i))
          ∙ sym (owners-more 0 before slot) ∙ ap (owners_from 0) more;
    }
