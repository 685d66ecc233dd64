use Rattle.std.proofs.Common.{◌∙◌, ◌≡◌, ◌∷◌, [], ap, sym}
use Rattle.aa_text_expansion.specs.Choices.{choices}
use Rattle.aa_text_expansion.specs.Expanding.{held}
use Rattle.aa_text_expansion.specs.Joining.{cut_off, joined}
use Rattle.aa_text_expansion.specs.Lists.{list_at}
use Rattle.aa_text_expansion.specs.Parts.{parts}
use Rattle.aa_text_expansion.specs.code.TextParts.{parts_of}
use Rattle.aa_text_expansion.proofs.ChoiceLemmas.{expand-part}
use Rattle.aa_text_expansion.proofs.ExpandingLemmas.{parts-cut}
use Rattle.aa_text_expansion.proofs.JoiningLemmas.{cut_off-front, joined-nil, joined-start}
use Rattle.aa_text_expansion.proofs.ListLemmas.{choices-kept, kept-then, there-kept}
use Rattle.aa_text_expansion.proofs.expanding.expand_text.Goals as goal

pub loop-part-init : goal.loop-part-init
loop-part-init g c =
    let made = c.in_ok-so_far.ensures.made in
    let start = list_at c.text.new.self c.in_ok-so_far.so_far in
    let ends = choices (held c.args.lists.now (g.V.Values.numbers c.args.values.now)) (parts c.args.text.now) in
    record {
      kept = made.kept;
      within = made.within;
      same = sym (cut_off-front start ends) ∙ ap (λ all. cut_off (joined all ends)) made.value ∙ cut_off-front ([] ∷ []) ends ∙ ap cut_off (joined-start ends);
    }

pub expand_part-requires : goal.expand_part-requires
expand_part-requires g c = there-kept c.args.lists.now c.loop-part.lists (g.V.Values.numbers c.args.values.now) c.requires c.loop-part.invariant.kept

pub loop-part-preserved : goal.loop-part-preserved
loop-part-preserved g c =
    let before = c.args.lists.now in
    let lists = c.loop-part.lists in
    let numbers = g.V.Values.numbers c.args.values.now in
    let values = held before numbers in
    let part = parts_of c.in-Some.part in
    let one = c.in_ok-next.ensures in
    let all = c.in_ok-so_far-2.ensures.made in
    let so_far = list_at lists c.loop-part.so_far in
    let next = list_at c.expand_part.new.lists c.in_ok-next.next in
    let kept = kept-then before lists c.expand_part.new.lists c.loop-part.invariant.kept one.kept in
    let choice : cut_off next ≡ cut_off (choices values part) = one.value ∙ ap cut_off (choices-kept before lists numbers c.requires c.loop-part.invariant.kept part) in
    let longer : cut_off (list_at c.joined.new.self c.in_ok-so_far-2.so_far) ≡ cut_off (joined so_far next) =
    all.value ∙ ap (λ first. cut_off (joined first next)) (one.kept.same c.loop-part.so_far c.loop-part.invariant.within)
    in
    record {
      kept = kept-then before c.expand_part.new.lists c.joined.new.self kept all.kept;
      within = all.within;
      same = expand-part values so_far (list_at c.joined.new.self c.in_ok-so_far-2.so_far) next part (parts c.in-Some.after.now) (parts c.loop-part.rest.now) c.in-Some.ensures.value choice longer
          ∙ c.loop-part.invariant.same;
    }

pub returns : goal.returns
returns g c =
    let values = held c.args.lists.now (g.V.Values.numbers c.args.values.now) in
    let texts = list_at c.loop-part.lists c.loop-part.so_far in
    let same : cut_off texts ≡ cut_off (choices values (parts c.args.text.now)) =
    sym (ap cut_off (joined-nil texts)) ∙ (rw c.in_default.ensures.value at c.loop-part.invariant.same)
    in
    record {
      kept = c.loop-part.invariant.kept;
      within = c.loop-part.invariant.within;
      value = λ whole each. same ∙ parts-cut values whole (parts c.args.text.now) each;
    }
