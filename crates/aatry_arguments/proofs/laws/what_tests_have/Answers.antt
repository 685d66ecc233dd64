use Rattle.std.proofs.Common.{◌∙◌, [], ◌∷◌, ap, false, refl, true}
use Rattle.aa_start.specs.Options.{asked_as, asked_then}
use Rattle.aatry_arguments.specs.Arguments.{ForTest}
use Rattle.aatry_arguments.specs.CheckWords.{asked_check, check_with}
use Rattle.aatry_arguments.specs.Flags.{without_flag}
use Rattle.aatry_arguments.specs.TestWords.{accept_flag, test_of}
use Rattle.aatry_arguments.proofs.AskedLemmas.{asked_of_check}
use Rattle.aatry_arguments.proofs.FlagLemmas.{none_given}
use Rattle.aatry_arguments.proofs.laws.what_tests_have.Goals as goal

pub returns-clause-alone : goal.returns-clause-alone
returns-clause-alone c = refl

pub returns-clause-none : goal.returns-clause-none
returns-clause-none c words base none asks =
    ap (λ accept. asked_as ForTest (asked_then (test_of accept) (asked_check (without_flag accept_flag words)))) none
    ∙ ap (λ others. asked_as ForTest (asked_then (test_of false) (asked_check others))) (none_given accept_flag words none)
    ∙ asked_of_check ForTest (test_of false) words (check_with base []) asks

pub returns-clause-some : goal.returns-clause-some
returns-clause-some c words base name names none asks =
    ap (λ accept. asked_as ForTest (asked_then (test_of accept) (asked_check (without_flag accept_flag words)))) none
    ∙ ap (λ others. asked_as ForTest (asked_then (test_of false) (asked_check others))) (none_given accept_flag words none)
    ∙ asked_of_check ForTest (test_of false) words (check_with base (name ∷ names)) asks

pub returns-clause-accepted : goal.returns-clause-accepted
returns-clause-accepted c words base name names given asks =
    ap (λ accept. asked_as ForTest (asked_then (test_of accept) (asked_check (without_flag accept_flag words)))) given
    ∙ asked_of_check ForTest (test_of true) (without_flag accept_flag words) (check_with base (name ∷ names)) asks
