use Rattle.std.proofs.Common.{◌∙◌, ap, refl}
use Rattle.aa_start.specs.Options.{asked_as}
use Rattle.aatry_arguments.specs.Arguments.{ForDiff}
use Rattle.aatry_arguments.specs.DiffWords.{asked_by, stat_flag}
use Rattle.aatry_arguments.specs.Flags.{without_flag}
use Rattle.aatry_arguments.proofs.DiffLawLemmas.{compared_by_both, compared_by_log, compared_by_none, compared_by_questions, last_log, last_questions, log_in_word, log_word, not_all, plain_words, questions_in_word, questions_word}
use Rattle.aatry_arguments.proofs.laws.what_comparisons_have.Goals as goal

pub returns-clause-alone : goal.returns-clause-alone
returns-clause-alone c = refl

pub returns-clause-by_none : goal.returns-clause-by_none
returns-clause-by_none c old new o n = compared_by_none old new o n

pub returns-clause-by_stat : goal.returns-clause-by_stat
returns-clause-by_stat c words none given = not_all words none ∙ ap (λ stat. asked_as ForDiff (asked_by stat (without_flag stat_flag words))) given

pub returns-clause-by_log : goal.returns-clause-by_log
returns-clause-by_log c old new path o n p = compared_by_log old new path o n p

pub returns-clause-by_questions : goal.returns-clause-by_questions
returns-clause-by_questions c old new path o n p = compared_by_questions old new path o n p

pub returns-clause-by_both : goal.returns-clause-by_both
returns-clause-by_both c old new log questions o n l q = compared_by_both old new log questions o n l q

pub returns-clause-log : goal.returns-clause-log
returns-clause-log c words path given p = log_word words path given p

pub returns-clause-log_in_word : goal.returns-clause-log_in_word
returns-clause-log_in_word c words path given = log_in_word words path given

pub returns-clause-questions : goal.returns-clause-questions
returns-clause-questions c words path given p = questions_word words path given p

pub returns-clause-questions_in_word : goal.returns-clause-questions_in_word
returns-clause-questions_in_word c words path given = questions_in_word words path given

pub returns-clause-last_log : goal.returns-clause-last_log
returns-clause-last_log c words first last given f l = last_log words first last given f l

pub returns-clause-last_questions : goal.returns-clause-last_questions
returns-clause-last_questions c words first last given f l = last_questions words first last given f l

pub returns-clause-plain : goal.returns-clause-plain
returns-clause-plain c words given h = plain_words words given h

pub returns-clause-dashes : goal.returns-clause-dashes
returns-clause-dashes c words given = refl
