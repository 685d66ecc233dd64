use Rattle.std.proofs.Common.{sym, subst, arith, ◌∙◌, ap}
use Rattle.aa_text_expansion.specs.Choices.{choices_within}
use Rattle.aa_text_expansion.specs.Counting.{IsCounted, count_of}
use Rattle.aa_text_expansion.specs.Names.{EachNameWithin}
use Rattle.aa_text_variables.specs.code.Columns.{counts_in}
use Rattle.aa_text_variables.proofs.CountLemmas.{words-counted}
use Rattle.aa_text_variables.proofs.TableLemmas.{within-split}
use Rattle.aa_text_variables.proofs.variables.count.counted_at.Goals as goal

pub returns : goal.returns
returns c = λ values each.
    let counted = IsCounted (counts_in c.args.counts.now) values in
    let both = within-split counted c.words.result.0.now c.words.result.1.now (subst (EachNameWithin counted) (sym c.words.ensures) each) in
    rw (c.min.ensures, c.saturating_add-count.ensures)
    (words-counted values c.words.result.0.now c.words.result.1.now c.count_words.result c.count_words-2.result _ (omega arith)
    (c.count_words.ensures.right values both.0) (c.count_words-2.ensures.right values both.1)
    ∙ ap (λ words. count_of (choices_within values words)) c.words.ensures)
