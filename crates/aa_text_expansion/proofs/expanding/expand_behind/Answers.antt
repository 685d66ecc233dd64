use Rattle.std.proofs.Common.{◌∙◌, ◌≡◌, ◌++◌, ap, append-nil, arith, sym}
use Rattle.std.proofs.lemmas.List.{take_all}
use Rattle.aa_text_expansion.specs.Choices.{choices, choices_within}
use Rattle.aa_text_expansion.specs.Expanding.{AreCutOff, held}
use Rattle.aa_text_expansion.specs.Joining.{cut_off}
use Rattle.aa_text_expansion.specs.Lists.{list_at}
use Rattle.aa_text_expansion.specs.Parts.{parts}
use Rattle.aa_text_expansion.proofs.ExpandingLemmas.{each-all}
use Rattle.aa_text_expansion.proofs.ListLemmas.{held-kept, kept-same, kept-then, there-kept, word-expanded}
use Rattle.aa_text_expansion.proofs.expanding.expand_behind.Goals as goal

pub loop-word-init : goal.loop-word-init
loop-word-init g c = record {
  kept = kept-same c.args.lists.now;
  within = c.requires.first;
  same = ap cut_off (sym (append-nil (list_at c.args.lists.now c.args.first)));
}

pub expand_text-requires : goal.expand_text-requires
expand_text-requires g c = there-kept c.args.lists.now c.loop-word.lists (g.V.Values.numbers c.args.values.now) c.requires.there c.loop-word.invariant.kept

pub loop-word-preserved : goal.loop-word-preserved
loop-word-preserved g c =
    let before = c.args.lists.now in
    let lists = c.loop-word.lists in
    let numbers = g.V.Values.numbers c.args.values.now in
    let values = held before numbers in
    let words = c.args.words.now in
    let at = c.loop-word.word-index in
    let word = c.word-item.result in
    let one = c.in_ok-next.ensures in
    let all = c.in_ok-so_far.ensures.made in
    let so_far = list_at lists c.loop-word.so_far in
    let next = list_at c.expand_text.new.lists c.in_ok-next.next in
    let kept = kept-then before lists c.expand_text.new.lists c.loop-word.invariant.kept one.kept in
    let choice : cut_off next ≡ cut_off (choices values (parts word)) =
    one.value values (each-all (AreCutOff (held lists numbers) values) (λ name. ap cut_off (held-kept before lists numbers c.requires.there c.loop-word.invariant.kept name)) (parts c.as_slice.result.now))
    ∙ ap (λ text. cut_off (choices values (parts text))) c.as_slice.ensures
    in
    record {
      kept = kept-then before c.expand_text.new.lists c.both.new.self kept all.kept;
      within = all.within;
      same = all.value ∙ ap (λ first. cut_off (first ++ next)) (one.kept.same c.loop-word.so_far c.loop-word.invariant.within)
          ∙ word-expanded values (list_at before c.args.first) so_far next words at word c.loop-word-test.true c.word-item.is c.loop-word.invariant.same choice;
    }

pub returns : goal.returns
returns g c =
    let values = held c.args.lists.now (g.V.Values.numbers c.args.values.now) in
    record {
      kept = c.loop-word.invariant.kept;
      within = c.loop-word.invariant.within;
      value = c.loop-word.invariant.same
          ∙ ap (λ words. cut_off (list_at c.args.lists.now c.args.first ++ choices_within values words)) (take_all c.loop-word.word-index c.args.words.now (omega arith));
    }
