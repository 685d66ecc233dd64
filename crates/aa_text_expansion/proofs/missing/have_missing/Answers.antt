use Rattle.std.proofs.Common.{◌∙◌, ◌||◌, ap, sym, get_or}
use Rattle.std.proofs.lemmas.List.Folds.{list_any_at, list_any_more}
use Rattle.aa_text_expansion.specs.Missing.{has_missing}
use Rattle.aa_text_expansion.proofs.missing.have_missing.Goals as goal

pub returns-then-misses : goal.returns-then-misses
returns-then-misses g c = λ test answers.
    sym (list_any_at (has_missing test) c.args.words.now c.loop-word.word-index c.word-item.result c.loop-word-test.true
    (ap (has_missing test) (sym c.word-item.is ∙ sym c.as_slice.ensures) ∙ sym (c.misses.ensures test answers) ∙ c.if-misses.true))

pub loop-word-preserved : goal.loop-word-preserved
loop-word-preserved g c = (
  c.loop-word.invariant.0,
  λ test answers.
      let words = c.args.words.now in
      let at = c.loop-word.word-index in
      let word = c.word-item.result in
      list_any_more (has_missing test) words at word c.loop-word-test.true
      ∙ ap (λ b. b || has_missing test (get_or words at word)) (c.loop-word.invariant.1 test answers)
      ∙ ap (has_missing test) (sym c.word-item.is ∙ sym c.as_slice.ensures) ∙ sym (c.misses.ensures test answers) ∙ c.if-misses.false,
)
