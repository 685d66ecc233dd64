use Rattle.std.proofs.Common.{sym, ap, ◌∙◌, not, take, drop}
use Rattle.std.specs.List.{list_any}
use Rattle.aa_bytes.specs.Texts.{begins}
use Rattle.aa_set_commands.specs.Words.{is_command_blank}
use Rattle.aa_set_commands.proofs.WordLemmas.{before-none, behind-first, word_end-of, words_of-cut}
use Rattle.aa_set_commands.proofs.words.next_word.Goals as goal

pub returns-clause-word : goal.returns-clause-word
returns-clause-word c =
    let text = c.without_blanks-text.result.now in
    let size = c.word_length.ensures.value in
    let plain = ap (λ n. list_any is_command_blank (take n text)) size ∙ before-none is_command_blank text in
    let ends = word_end-of (drop c.word_length.result text) (ap (λ n. begins (λ b. not (is_command_blank b)) (drop n text)) size ∙ behind-first is_command_blank text) in
    let cut = words_of-cut text c.word_length.result c.in-len1-up.len_at_least c.if-first-eq34.false (c.without_blanks-text.ensures.begins c.in-len1-up.len_at_least) c.word_length.ensures.within plain ends in
    sym c.without_blanks-text.ensures.words ∙ rw (c.split_at.ensures.front, c.split_at.ensures.back) cut
