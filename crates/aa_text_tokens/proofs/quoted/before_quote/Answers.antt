use Rattle.std.proofs.Common.{◌∙◌, arith}
use Rattle.aa_text_tokens.specs.Cut.{before_quote}
use Rattle.aa_text_tokens.proofs.SizeLemmas.{before_quote-on, further-zero, rest-length}
use Rattle.aa_text_tokens.proofs.quoted.before_quote.Goals as goal

pub loop-rest-init : goal.loop-rest-init
loop-rest-init c = record { value = further-zero (before_quote c.args.text.now); whole = omega arith }

pub loop-rest-preserved : goal.loop-rest-preserved
loop-rest-preserved c =
    let text = c.loop-rest.rest.now in
    record {
      value = rw c.taken-more.ensures.value (before_quote-on c.loop-rest.size text c.in-len1-up.len_at_least c.if-first-eq34.false c.if-first-eq10.false ∙ c.loop-rest.invariant.value);
      whole = rest-length c.loop-rest.size c.taken-more.result text c.taken-more.ensures.within ∙ c.loop-rest.invariant.whole;
    }
