use Rattle.std.proofs.Common.{◌≡◌, ◌∙◌, ℕ, Bool, false, List, [], Option, None, Some, ap, refl}
use Rattle.std.specs.Option.{option_map}
use Rattle.aa_start.specs.Options.{Asked, asked_as, asked_then}
use Rattle.aatry_arguments.specs.Arguments.{CommandAsked, ForLog}
use Rattle.aatry_arguments.specs.Flags.{is_given, without_flag}
use Rattle.aatry_arguments.specs.CheckWords.{asked_check, check_with}
use Rattle.aatry_arguments.specs.LogWords.{LogNamed, LogsAsked, all_lines, asked_by_named, asked_logs, denied_flag, globs_flag, lines_with, logs_of, named_in, named_then, named_with, plain_telling, rules_flag, strict_flag, telling_with, without_flags}
use Rattle.aatry_arguments.proofs.AskedLemmas.{asked_of_check}
use Rattle.aatry_arguments.proofs.FlagLemmas.{none_given}
use Rattle.aatry_arguments.proofs.laws.what_logs_have.Goals as goal

pub returns-clause-alone : goal.returns-clause-alone
unfolding asked_logs
returns-clause-alone c = refl

pub returns-clause-strict : goal.returns-clause-strict
unfolding asked_logs
returns-clause-strict c = refl

pub returns-clause-rules : goal.returns-clause-rules
unfolding asked_logs
returns-clause-rules c = refl

pub returns-clause-globs : goal.returns-clause-globs
unfolding asked_logs
returns-clause-globs c = refl

pub returns-clause-denied : goal.returns-clause-denied
unfolding asked_logs
returns-clause-denied c = refl

pub returns-clause-profile : goal.returns-clause-profile
unfolding asked_logs
returns-clause-profile c name = refl

-- what is asked where a word behind `--since` names this time, or none
abbrev named_at : Option ℕ → LogNamed
named_at since = record { profile = None; since = since; words = [] }

abbrev by_time : Option ℕ → Asked CommandAsked
by_time time = asked_as ForLog (asked_by_named (option_map named_at (option_map (λ time. Some time) time)))

pub returns-clause-since : goal.returns-clause-since
unfolding asked_logs
returns-clause-since c word time without is = ap (λ read. asked_as ForLog (asked_by_named (named_then read))) without ∙ ap by_time is

pub returns-clause-no_time : goal.returns-clause-no_time
unfolding asked_logs
returns-clause-no_time c word without is = ap (λ read. asked_as ForLog (asked_by_named (named_then read))) without ∙ ap by_time is

-- what words ask by these flags and the others
abbrev by_flags : Bool → Bool → Bool → Bool → List (List ℕ) → Asked LogsAsked
by_flags strict rules globs denied words = asked_then (logs_of (telling_with strict rules globs) (lines_with denied None None)) (asked_check words)

-- words among which no flag is given are the same without the flags
no_flags : (words : List (List ℕ)) → is_given strict_flag words ≡ false → is_given rules_flag words ≡ false → is_given globs_flag words ≡ false
    → is_given denied_flag words ≡ false → without_flags words ≡ words
no_flags words strict rules globs denied =
    ap (λ others. without_flag denied_flag (without_flag globs_flag (without_flag rules_flag others))) (none_given strict_flag words strict)
    ∙ (ap (λ others. without_flag denied_flag (without_flag globs_flag others)) (none_given rules_flag words rules)
    ∙ (ap (without_flag denied_flag) (none_given globs_flag words globs) ∙ none_given denied_flag words denied))

-- and they ask what they would without them
by_no_flags : (words : List (List ℕ)) → is_given strict_flag words ≡ false → is_given rules_flag words ≡ false → is_given globs_flag words ≡ false
    → is_given denied_flag words ≡ false
    → by_flags (is_given strict_flag words) (is_given rules_flag words) (is_given globs_flag words) (is_given denied_flag words) (without_flags words)
    ≡ by_flags false false false false words
by_no_flags words strict rules globs denied =
    ap (λ strict. by_flags strict (is_given rules_flag words) (is_given globs_flag words) (is_given denied_flag words) (without_flags words)) strict
    ∙ (ap (λ rules. by_flags false rules (is_given globs_flag words) (is_given denied_flag words) (without_flags words)) rules
    ∙ (ap (λ globs. by_flags false false globs (is_given denied_flag words) (without_flags words)) globs
    ∙ (ap (λ denied. by_flags false false false denied (without_flags words)) denied
    ∙ ap (by_flags false false false false) (no_flags words strict rules globs denied))))

pub returns-clause-paths : goal.returns-clause-paths
unfolding asked_logs
returns-clause-paths c words base names profile since strict rules globs denied asks =
    let named : named_in words ≡ Some (record { profile = None; since = None; words = words }) = ap named_then profile ∙ ap (named_with None) since in
    ap (asked_as ForLog) (ap asked_by_named named ∙ by_no_flags words strict rules globs denied)
    ∙ asked_of_check ForLog (logs_of plain_telling all_lines) words (check_with base names) asks
