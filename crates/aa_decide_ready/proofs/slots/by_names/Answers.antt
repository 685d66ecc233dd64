use Rattle.std.proofs.Common.{◌≡◌, ◌++◌, ◌∷◌, [], length, sym, take, ap, ◌∙◌, arith}
use Rattle.std.proofs.lemmas.List.{map_more}
use Rattle.std.proofs.Math.Seq.{take-length}
use Rattle.aa_profile_data.specs.declared.profile.Profile.{Profile}
use Rattle.aa_decide_ready.specs.SlotNames.{slot_named, slots_named}
use Rattle.aa_decide_ready.proofs.slots.by_names.Goals as goal

pub loop-profile-preserved : goal.loop-profile-preserved
loop-profile-preserved c = λ slots is.
    let slot = c.slot.ensures slots is ∙ ap (λ name. slot_named name slots) c.as_slice.ensures
    ∙ ap (λ (profile : Profile). slot_named profile.name slots) c.profile-item.is in
    c.in_ok-push.ensures.items
    ∙ (λ i. c.loop-profile.invariant slots is i ++ slot i ∷ [])
    ∙ sym (map_more (λ (profile : Profile). slot_named profile.name slots) c.args.profiles.now c.loop-profile.profile-index c.profile-item.result c.loop-profile-test.true)

pub returns : goal.returns
returns c = λ slots is.
    let profiles = c.args.profiles.now in
    let end : c.loop-profile.profile-index ≡ length profiles = omega arith in
    c.loop-profile.invariant slots is ∙ ap (λ l. slots_named l slots) (ap (λ n. take n profiles) end ∙ take-length profiles)
