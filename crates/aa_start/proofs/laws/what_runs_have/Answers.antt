use Rattle.aa_start.proofs.LawLemmas.{base_word, both_words, each_run_is_named, language_word, mode_word, plain_words}
use Rattle.aa_start.proofs.laws.what_runs_have.Goals as goal

pub returns-clause-names : goal.returns-clause-names
returns-clause-names c words run h = each_run_is_named words run h

pub returns-clause-plain : goal.returns-clause-plain
returns-clause-plain c words run h = plain_words words run h

pub returns-clause-mode : goal.returns-clause-mode
returns-clause-mode c words run = mode_word words run

pub returns-clause-base : goal.returns-clause-base
returns-clause-base c words folder run h = base_word words folder run h

pub returns-clause-language : goal.returns-clause-language
returns-clause-language c words word run h = language_word words word run h

pub returns-clause-both : goal.returns-clause-both
returns-clause-both c = both_words
