use Rattle.aa_decide.proofs.AttachmentLemmas.{attached-from, attached-holds, attached-order}
use Rattle.aa_decide.proofs.ExecLemmas.{answer-in_force, answer-masked, answer-order, denied-first, stack-in_force}
use Rattle.aa_decide.proofs.laws.where_programs_run.Goals as goal

pub returns-clause-none_runs_under_a_disabled_profile : goal.returns-clause-none_runs_under_a_disabled_profile
returns-clause-none_runs_under_a_disabled_profile c = answer-in_force c.which_rank_stands_out.ensures

pub returns-clause-all_of_a_stack_are_in_force : goal.returns-clause-all_of_a_stack_are_in_force
returns-clause-all_of_a_stack_are_in_force c = stack-in_force c.which_rank_stands_out.ensures

pub returns-clause-best_fit_is_attached : goal.returns-clause-best_fit_is_attached
returns-clause-best_fit_is_attached c path entries entry distinct =
    (attached-holds c.which_rank_stands_out.ensures path entries entry, attached-from c.which_rank_stands_out.ensures path entries entry distinct)

pub returns-clause-order_changes_no_attachment : goal.returns-clause-order_changes_no_attachment
returns-clause-order_changes_no_attachment c = attached-order c.which_rank_stands_out.ensures

pub returns-clause-order_changes_no_answer : goal.returns-clause-order_changes_no_answer
returns-clause-order_changes_no_answer c = answer-order c.which_rank_stands_out.ensures

pub returns-clause-deny_rule_wins : goal.returns-clause-deny_rule_wins
returns-clause-deny_rule_wins c = denied-first

pub returns-clause-mask_is_exec : goal.returns-clause-mask_is_exec
returns-clause-mask_is_exec c = answer-masked
