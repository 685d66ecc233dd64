use Rattle.std.proofs.Common.{◌≡◌, ◌∙◌, List, ap, rules, subst, sym}
use Rattle.aa_decide_ready.proofs.PartLemmas.{parts-set}
use Rattle.aa_decide_ready.specs.code.Parts.{IsPartOf}
use Rattle.aa_profile_data.specs.declared.profile.Child.{Child}
use Rattle.aa_profile_data.specs.declared.profile.Rule.{Rule}
use Rattle.aa_decide_ready.proofs.ready.remember_child.Goals as goal

pub returns : goal.returns
returns c are =
    let old = c.index_mut.result.now in
    let child = c.index-children-place.result in
    let same : c.as_slice-rules.result.now ≡ child.rules =
    c.as_slice-rules.ensures ∙ ap (λ (own : Child). own.rules) (sym c.index-children-place.is) in
    parts-set c.args.parts.now.items c.args.children.now c.args.place c.remember.new.self old child are (search rules) c.index_mut.ensures.value
    c.index-children-place.is
    (λ own. subst (λ (l : List Rule). IsPartOf c.remember.new.self l child.attachments) same
    (c.remember.ensures child.attachments (subst (λ (l : List Rule). IsPartOf old l child.attachments) (sym same) own)))
