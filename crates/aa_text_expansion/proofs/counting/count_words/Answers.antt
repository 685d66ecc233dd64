use Rattle.std.proofs.Common.{◌≡◌, ap, sym, ◌∙◌, ◌∷◌, ◌++◌, [], arith, take}
use Rattle.std.proofs.lemmas.List.{take_all, take_more}
use Rattle.aa_text_expansion.specs.Counting.{counted_words}
use Rattle.aa_text_expansion.proofs.CountingLemmas.{count-word, words-counted}
use Rattle.aa_text_expansion.proofs.counting.count_words.Goals as goal

pub loop-word-preserved : goal.loop-word-preserved
loop-word-preserved g c =
    let counts = g.C.Counts.counts c.args.counts.now in
    let front = take c.loop-word.word-index c.args.words.now in
    let next = take_more c.args.words.now c.loop-word.word-index c.word-item.result c.loop-word-test.true in
    rw (c.min-so_far.ensures, c.saturating_add.ensures, c.loop-word.invariant, c.count_text-more.ensures.value, c.as_slice.ensures)
    (count-word counts front c.word-item.result _ (omega arith)
    ∙ ap (counted_words counts) (ap (λ w. front ++ w ∷ []) c.word-item.is ∙ sym next))

pub returns-clause-right : goal.returns-clause-right
returns-clause-right g c =
    let counts = g.C.Counts.counts c.args.counts.now in
    let value : c.loop-word.so_far ≡ counted_words counts c.args.words.now = c.loop-word.invariant ∙ ap (counted_words counts) (take_all c.loop-word.word-index c.args.words.now (omega arith)) in
    λ values each. value ∙ words-counted counts values c.args.words.now each
