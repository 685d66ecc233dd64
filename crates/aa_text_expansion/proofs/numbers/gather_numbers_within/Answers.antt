use Rattle.std.proofs.Common.{◌∙◌, ap}
use Rattle.aa_text_expansion.specs.Numbers.{numbers_in, with_indexes}
use Rattle.aa_text_expansion.proofs.NumberLemmas.{numbers-more}
use Rattle.aa_text_expansion.proofs.numbers.gather_numbers_within.Goals as goal

pub loop-word-preserved : goal.loop-word-preserved
loop-word-preserved g c = (
  c.loop-word.invariant.0,
  λ index answers.
      numbers-more index c.args.gathered.now.keys c.loop-word.gathered.keys c.gather.new.gathered.keys c.args.words.now c.loop-word.word-index c.word-item.result c.loop-word-test.true c.word-item.is
      (c.loop-word.invariant.1 index answers) (c.in_ok-gather.ensures index answers ∙ ap (λ word. with_indexes c.loop-word.gathered.keys (numbers_in index word)) c.as_slice.ensures),
)
