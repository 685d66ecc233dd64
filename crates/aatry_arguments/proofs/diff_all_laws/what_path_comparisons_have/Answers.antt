use Rattle.std.proofs.Common.{[], ◌∷◌, None, refl}
use Rattle.aatry_arguments.proofs.DiffAllLemmas.{alone, anywhere, by_log, by_questions, flags, limited, names_ask, number_asks}
use Rattle.aatry_arguments.proofs.DiffLawLemmas.{not_all}
use Rattle.aatry_arguments.proofs.diff_all_laws.what_path_comparisons_have.Goals as goal

pub returns-clause-alone : goal.returns-clause-alone
returns-clause-alone c = alone

pub returns-clause-one : goal.returns-clause-one
returns-clause-one c old o = names_ask (old ∷ []) (rw o refl)

pub returns-clause-names : goal.returns-clause-names
returns-clause-names c old new who o n named = names_ask (old ∷ new ∷ who) (rw (o, n) named)

pub returns-clause-by_log : goal.returns-clause-by_log
returns-clause-by_log c old new path o n p = by_log old new path o n p

pub returns-clause-by_questions : goal.returns-clause-by_questions
returns-clause-by_questions c old new path o n p = by_questions old new path o n p

pub returns-clause-anywhere : goal.returns-clause-anywhere
returns-clause-anywhere c words given = anywhere words given

pub returns-clause-nowhere : goal.returns-clause-nowhere
returns-clause-nowhere c words none = not_all words none

pub returns-clause-flags : goal.returns-clause-flags
returns-clause-flags c words stat quiet_audit without s q = flags words stat quiet_audit without s q

pub returns-clause-limited : goal.returns-clause-limited
returns-clause-limited c number old new who limit is o n named = limited number (old ∷ new ∷ who) limit is (rw (o, n) named)

pub returns-clause-no_number : goal.returns-clause-no_number
returns-clause-no_number c number old new who is o n named = number_asks number (old ∷ new ∷ who) None is (rw (o, n) named)

pub returns-clause-limit : goal.returns-clause-limit
returns-clause-limit c so_far number words = refl

pub returns-clause-limit_in_word : goal.returns-clause-limit_in_word
returns-clause-limit_in_word c so_far number words = refl
