use Rattle.std.proofs.Common.{◌≡◌, ◌∙◌, ◌<◌, ap, get_or, length, sym}
use Rattle.aa_decide_rules.specs.Ranks.{best_rank}
use Rattle.aa_decide.proofs.ChildLemmas.{ranks-more}
use Rattle.aa_decide.proofs.attachment.child_ranks.Goals as goal

pub loop-place-preserved : goal.loop-place-preserved
loop-place-preserved c =
    let children = c.args.ready.now.children in
    let same : c.as_slice-children.result.now ≡ children = c.as_slice-children.ensures ∙ ap (λ profile. profile.children) c.ready.view_is in
    let place = c.loop-place.place in
    let child = c.index-children-place.result in
    let within : place < length children = rw (sym same) c.loop-place-test.true in
    ranks-more c.args.path.now children place c.loop-place.ranks.items c.push.new.self.items c.in_ok-section_rank.field-0 child within
    (c.index-children-place.is ∙ ap (λ all. get_or all place child) same)
    c.loop-place.invariant
    (c.in_ok-section_rank.ensures ∙ ap (λ section. best_rank c.args.path.now section.attachments) c.section.ensures)
    c.in_ok-push.ensures.items
