use Rattle.std.proofs.Common.{◌∙◌, ap, sym}
use Rattle.std.proofs.lemmas.Bool.{cond-false}
use Rattle.aatry_hints.specs.Options.{is_option, is_read_ahead, is_word_of, name_in, paths}
use Rattle.aatry_hints.proofs.parts.stands_apart.Goals as goal

pub returns-else-is_word_of : goal.returns-else-is_word_of
returns-else-is_word_of c =
    let option = c.args.option.now in
    let word = c.args.word.now in
    c.is_read_ahead.ensures
    ∙ ap (is_read_ahead option) c.name_in.ensures
    ∙ sym (cond-false (is_word_of paths option) (is_option word) (is_read_ahead option (name_in word)) (sym c.is_word_of.ensures ∙ c.if-is_word_of.false))
