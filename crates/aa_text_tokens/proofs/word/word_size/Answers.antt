use Rattle.std.proofs.Common.{sym, ◌∙◌, arith}
use Rattle.aa_text_tokens.proofs.SizeLemmas.{rest-length}
use Rattle.aa_text_tokens.proofs.WordLemmas.{word_left-on}
use Rattle.aa_text_tokens.proofs.word.word_size.Goals as goal

pub loop-before-preserved : goal.loop-before-preserved
loop-before-preserved c =
    let text = c.loop-before.rest.now in
    let goes = sym c.goes_on.ensures.value ∙ c.loop-before-test.true in
    record {
      value = rw (c.depth_behind-depth.ensures.value, c.taken-more.ensures.value) (word_left-on c.loop-before.size c.loop-before.depth c.loop-before.before text goes ∙ c.loop-before.invariant.value);
      whole = rest-length c.loop-before.size c.taken-more.result text c.taken-more.ensures.within ∙ c.loop-before.invariant.whole;
      shallow = omega (arith, c.taken-more.ensures.some, c.depth_behind-depth.ensures.bound);
    }
