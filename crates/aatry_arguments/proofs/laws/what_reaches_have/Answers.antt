use Rattle.std.proofs.Common.{◌∙◌, ap, false, true, refl}
use Rattle.aa_start.specs.Options.{asked_as, asked_then}
use Rattle.aatry_arguments.specs.Arguments.{ForReach}
use Rattle.aatry_arguments.specs.AskingWords.{asked_words}
use Rattle.aatry_arguments.specs.Flags.{without_flag}
use Rattle.aatry_arguments.specs.PathsWords.{limited_by}
use Rattle.aatry_arguments.specs.ReachWords.{asked_by_limit, asked_reach, dot_flag, reach_of}
use Rattle.aatry_arguments.proofs.FlagLemmas.{none_given}
use Rattle.aatry_arguments.proofs.laws.what_reaches_have.Goals as goal

pub returns-clause-alone : goal.returns-clause-alone
unfolding asked_reach
returns-clause-alone c = refl

pub returns-clause-names : goal.returns-clause-names
unfolding asked_reach
returns-clause-names c words base name names no_dot without asks =
    ap (λ read. asked_as ForReach (asked_by_limit (limited_by read))) without
    ∙ ap (λ dot. asked_as ForReach (asked_then (reach_of dot 262144) (asked_words (without_flag dot_flag words)))) no_dot
    ∙ ap (λ others. asked_as ForReach (asked_then (reach_of false 262144) (asked_words others))) (none_given dot_flag words no_dot)
    ∙ ap (λ asked. asked_as ForReach (asked_then (reach_of false 262144) asked)) asks

pub returns-clause-dot : goal.returns-clause-dot
unfolding asked_reach
returns-clause-dot c words base name names dot without asks =
    ap (λ read. asked_as ForReach (asked_by_limit (limited_by read))) without
    ∙ ap (λ dot. asked_as ForReach (asked_then (reach_of dot 262144) (asked_words (without_flag dot_flag words)))) dot
    ∙ ap (λ asked. asked_as ForReach (asked_then (reach_of true 262144) asked)) asks
