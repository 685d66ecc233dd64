use Rattle.std.proofs.Common.{◌++◌, ◌∷◌, [], sym, ap, ◌∙◌}
use Rattle.std.proofs.lemmas.List.{map_more}
use Rattle.aa_profile_data.specs.declared.profile.Profile.{Profile}
use Rattle.aa_decide_ready.specs.SlotNames.{slot_named}
use Rattle.aa_decide_ready.proofs.slots.one_by_one.Goals as goal

pub loop-profile-preserved : goal.loop-profile-preserved
loop-profile-preserved c =
    let slot = c.slot_named.ensures ∙ ap (λ name. slot_named name c.args.slots.now) c.as_slice.ensures
    ∙ ap (λ (profile : Profile). slot_named profile.name c.args.slots.now) c.profile-item.is in
    c.in_ok-push.ensures.items
    ∙ (λ i. c.loop-profile.invariant i ++ slot i ∷ [])
    ∙ sym (map_more (λ (profile : Profile). slot_named profile.name c.args.slots.now) c.args.profiles.now c.loop-profile.profile-index c.profile-item.result c.loop-profile-test.true)
