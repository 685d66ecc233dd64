use Rattle.std.proofs.Common.{[], ◌∷◌, refl}
use Rattle.aatry_arguments.specs.Arguments.{ForWho, ForWhy}
use Rattle.aatry_arguments.specs.AskingWords.{asking_of}
use Rattle.aatry_arguments.specs.CheckWords.{check_with}
use Rattle.aatry_arguments.proofs.AskedLemmas.{asked_of_check}
use Rattle.aatry_arguments.proofs.laws.what_askings_have.Goals as goal

pub returns-clause-who_alone : goal.returns-clause-who_alone
returns-clause-who_alone c = refl

pub returns-clause-who_none : goal.returns-clause-who_none
returns-clause-who_none c words base asks = asked_of_check ForWho asking_of words (check_with base []) asks

pub returns-clause-who : goal.returns-clause-who
returns-clause-who c words base word more asks = asked_of_check ForWho asking_of words (check_with base (word ∷ more)) asks

pub returns-clause-why_alone : goal.returns-clause-why_alone
returns-clause-why_alone c = refl

pub returns-clause-why_none : goal.returns-clause-why_none
returns-clause-why_none c words base asks = asked_of_check ForWhy asking_of words (check_with base []) asks

pub returns-clause-why : goal.returns-clause-why
returns-clause-why c words base word more asks = asked_of_check ForWhy asking_of words (check_with base (word ∷ more)) asks
