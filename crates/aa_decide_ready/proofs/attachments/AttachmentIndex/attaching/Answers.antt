use Rattle.std.proofs.Common.{◌∙◌, ap, subst}
use Rattle.std.specs.List.Sorted.{IsPermutation}
use Rattle.aa_profile_data.specs.Picked.{picked}
use Rattle.aa_decide_ready.proofs.AttachmentLemmas.{are-attaching}
use Rattle.aa_decide_ready.proofs.attachments.AttachmentIndex.attaching.Goals as goal

pub returns : goal.returns
returns c = λ slots is.
    let places = c.in_ok-found.found.items in
    let sorted = c.sort_unstable.new.self.items in
    let same = c.pick.ensures ∙ ap (λ all. picked all places) (c.as_slice.ensures ∙ is.owners) in
    are-attaching c.args.path.now slots places sorted c.dedup.new.self.items
    (c.in_ok-found.ensures.found _ is.automaton)
    (subst (λ l. IsPermutation l sorted) same c.sort_unstable.ensures.permutation)
    c.sort_unstable.ensures.sorted c.dedup.ensures.filtered
