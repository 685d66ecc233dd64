use Rattle.std.proofs.Common.{◌∙◌, ◌∷◌, sym, ap, take}
use Rattle.aa_profile_parsing.specs.Flags.{separates}
use Rattle.aa_profile_parsing.proofs.FlagLemmas.{first_word, words_behind, words_behind-none, words_behind-some}
use Rattle.aatry_refusal_words.proofs.flags.first_word.Goals as goal

pub returns-in_default-clause-words : goal.returns-in_default-clause-words
returns-in_default-clause-words c =
    let list = c.args.list.now in
    let cut = rw (sym c.word_size-size.ensures.size) at (first_word separates list) in
    cut ∙ ap (λ words. take c.word_size-size.result list ∷ words) (ap (words_behind separates) (sym c.behind.ensures) ∙ words_behind-none separates c.behind.result.now c.in_default.len_below)

pub returns-in-len1-up-clause-words : goal.returns-in-len1-up-clause-words
returns-in-len1-up-clause-words c =
    let list = c.args.list.now in
    let cut = rw (sym c.word_size-size.ensures.size) at (first_word separates list) in
    cut ∙ ap (λ words. take c.word_size-size.result list ∷ words) (ap (words_behind separates) (sym c.behind.ensures) ∙ words_behind-some separates c.behind.result.now c.in-len1-up.len_at_least)
