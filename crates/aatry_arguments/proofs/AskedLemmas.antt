-- What words ask for that are read as those behind `check`.
use Rattle.std.proofs.Common.{◌≡◌, ℕ, Bool, true, false, List, Result, Ok, Err, refl, sym, subst}
use Rattle.aa_start.specs.Given.{IsGivenFor}
use Rattle.aa_start.proofs.FaultLemmas.{memory_given}
use Rattle.aatry_arguments.specs.Arguments.{CommandAsked, ForCheck, ForRules, asked_checks}
use Rattle.aa_start.specs.Options.{Asked, ForThis, ForHelp, ForVersion, Nothing, asked_as, asked_then}
use Rattle.aatry_arguments.specs.CheckWords.{CheckAsked, asked_check}
use Rattle.aatry_arguments.specs.Flags.{is_given, without_flag}
use Rattle.aatry_arguments.specs.Given.{IsHelp, IsPassedOn}
use Rattle.aatry_arguments.specs.RulesWords.{RulesCheckAsked, asked_rules, redundant_flag}
use Rattle.aa_start.specs.declared.fault.ArgumentFault.{ArgumentFault}
use Rattle.aa_start.specs.declared.fault.ArgumentFault.TheVariants.{Help, Version, Bad, Memory}

-- help may be given where it is asked for
pub help_given : {A B : Type 0} (meant : B → A) (fault : ArgumentFault) → IsHelp fault → IsGivenFor meant ForHelp (Err fault)
help_given meant (Help text) help = tt
help_given meant (Version text) help = absurd help
help_given meant Bad help = absurd help
help_given meant Memory help = tt

-- a fault that may be given where something is asked for, may be passed on where more is made of it
pub fault_given : {A B C D : Type 0} (first : D → C) (meant : B → A) (made : C → Asked A) (asked : Asked C) (fault passed : ArgumentFault)
    → IsGivenFor first asked (Err fault) → IsPassedOn fault passed → IsGivenFor meant (asked_then made asked) (Err passed)
fault_given first meant made (ForThis thing) (Help other) passed given is = absurd given
fault_given first meant made (ForThis thing) (Version text) passed given is = absurd given
fault_given first meant made (ForThis thing) Bad passed given is = absurd given
fault_given first meant made (ForThis thing) Memory passed given is = subst (λ p. IsGivenFor meant (asked_then made (ForThis thing)) (Err p)) (sym is) (memory_given meant (made thing))
fault_given first meant made ForHelp (Help other) passed given is = help_given meant passed is
fault_given first meant made ForHelp (Version text) passed given is = absurd given
fault_given first meant made ForHelp Bad passed given is = absurd given
fault_given first meant made ForHelp Memory passed given is = subst (λ p. IsGivenFor meant (asked_then made ForHelp) (Err p)) (sym is) tt
fault_given first meant made ForVersion (Help other) passed given is = absurd given
fault_given first meant made ForVersion (Version text) passed given is = subst (λ p. IsGivenFor meant (asked_then made ForVersion) (Err p)) (sym is) tt
fault_given first meant made ForVersion Bad passed given is = absurd given
fault_given first meant made ForVersion Memory passed given is = subst (λ p. IsGivenFor meant (asked_then made ForVersion) (Err p)) (sym is) tt
fault_given first meant made Nothing (Help other) passed given is = absurd given
fault_given first meant made Nothing (Version text) passed given is = absurd given
fault_given first meant made Nothing Bad passed given is = subst (λ p. IsGivenFor meant (asked_then made Nothing) (Err p)) (sym is) tt
fault_given first meant made Nothing Memory passed given is = subst (λ p. IsGivenFor meant (asked_then made Nothing) (Err p)) (sym is) tt

-- where a thing is given, what is made of it may be given
pub then_given : {A B C D : Type 0} (first : D → C) (meant : B → A) (made : C → Asked A) (asked : Asked C) (thing : D) (result : Result B ArgumentFault)
    → IsGivenFor first asked (Ok thing) → IsGivenFor meant (made (first thing)) result → IsGivenFor meant (asked_then made asked) result
then_given first meant made (ForThis asked) thing result given is = subst (λ a. IsGivenFor meant (made a) result) given is
then_given first meant made ForHelp thing result given is = absurd given
then_given first meant made ForVersion thing result given is = absurd given
then_given first meant made Nothing thing result given is = absurd given

-- a fault passes as it is
pub passes : (fault : ArgumentFault) → IsPassedOn fault fault
passes (Help text) = tt
passes (Version text) = refl
passes Bad = refl
passes Memory = refl

-- where a check of files is asked for, what would be asked of another command is known
of_files : {A : Type 0} (command : A → CommandAsked) (made : CheckAsked → Asked A) (asked : Asked CheckAsked) (check : CheckAsked)
    → asked_as ForCheck asked ≡ ForThis (ForCheck check) → asked_as command (asked_then made asked) ≡ asked_as command (made check)
of_files command made (ForThis asked) check same = rw (same_check same) refl
  where
    checked : Asked CommandAsked → CheckAsked
    checked (ForThis (ForCheck asked)) = asked
    checked other = check

    same_check : {a b : CheckAsked} → ForThis (ForCheck a) ≡ ForThis (ForCheck b) → a ≡ b
    same_check same = cc
of_files command made ForHelp check same = cc
of_files command made ForVersion check same = cc
of_files command made Nothing check same = cc

-- words that ask for a check of files don't ask for rules
no_rules : (asked : Asked RulesCheckAsked) (check : CheckAsked) → asked_as ForRules asked ≡ ForThis (ForCheck check) → ⊥
no_rules (ForThis rules) check same = cc
no_rules ForHelp check same = cc
no_rules ForVersion check same = cc
no_rules Nothing check same = cc

pub asked_of_check : {A : Type 0} (command : A → CommandAsked) (made : CheckAsked → Asked A) (words : List (List ℕ)) (check : CheckAsked)
    → asked_checks words ≡ ForThis (ForCheck check) → asked_as command (asked_then made (asked_check words)) ≡ asked_as command (made check)
asked_of_check command made words check asks = by (is_given redundant_flag words) refl
  where
    by : (b : Bool) → is_given redundant_flag words ≡ b → asked_as command (asked_then made (asked_check words)) ≡ asked_as command (made check)
    by true is =
        let rules : asked_as ForRules (asked_rules (without_flag redundant_flag words)) ≡ ForThis (ForCheck check) = rw is at asks in
        absurd (no_rules (asked_rules (without_flag redundant_flag words)) check rules)
    by false is =
        let files : asked_as ForCheck (asked_check words) ≡ ForThis (ForCheck check) = rw is at asks in
        of_files command made (asked_check words) check files
