use Rattle.std.proofs.Common.{arith}
use Rattle.aatry_log_lines.proofs.PairLemmas.{words-ended, words-last}
use Rattle.aatry_log_lines.proofs.pairs.first_word.Goals as goal

pub returns-then-size-text-clause-words : goal.returns-then-size-text-clause-words
returns-then-size-text-clause-words c =
    words-ended c.args.text.now c.word_size-size.result c.word_size-size.ensures.size (omega (arith, c.if-size-text.true))

pub returns-else-size-text-clause-words : goal.returns-else-size-text-clause-words
returns-else-size-text-clause-words c =
    words-last c.args.text.now c.word_size-size.result c.word_size-size.ensures.size (omega (arith, c.if-size-text.false))
