use Rattle.std.proofs.Common.{◌≡◌, ◌+◌, ◌++◌, drop, sym, ap, ◌∙◌}
use Rattle.std.specs.Prelude.{slice_get}
use Rattle.std.proofs.lemmas.List.{append_assoc}
use Rattle.aatry_shared.proofs.LineLemmas.{lines-step}
use Rattle.aatry_shared.specs.SharedLines.{shared_lines}
use Rattle.aatry_shared.specs.code.Steps.{group_text_at}
use Rattle.aatry_shared.specs.declared.side.Finders.{Finders}
use Rattle.aatry_shared.proofs.shared_lines.push_shared.Goals as goal

pub loop-place-preserved : goal.loop-place-preserved
loop-place-preserved c =
    let form = c.args.teller.form in
    let old = c.args.finders.now.of_old in
    let new = c.args.finders.now.of_new in
    let groups = c.args.sharing.now in
    let at = slice_get groups c.loop-place.place in
    let text = c.loop-place.out.items in
    let behind = shared_lines form old new (drop (c.loop-place.place + 1) groups) in
    let own : c.push_group_at.new.out.items ≡ text ++ group_text_at form old new at =
    c.in_ok-push_group_at.ensures.told ∙ ap (λ (f : Finders). text ++ group_text_at form f.of_old f.of_new at) c.loop-place.invariant.same in
    record {
      told = ap (λ front. front ++ behind) own ∙ append_assoc text (group_text_at form old new at) behind
          ∙ ap (λ more. text ++ more) (sym (lines-step form old new groups c.loop-place.place)) ∙ c.loop-place.invariant.told;
      same = c.push_group_at.ensures.same ∙ c.loop-place.invariant.same;
    }
