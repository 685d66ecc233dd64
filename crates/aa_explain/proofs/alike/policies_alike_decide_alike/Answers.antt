use Rattle.aa_explain.proofs.StartAlikeLemmas.{decided-alike, start-alike}
use Rattle.aa_explain.proofs.alike.policies_alike_decide_alike.Goals as goal

pub returns-clause-same_verdict : goal.returns-clause-same_verdict
returns-clause-same_verdict c = decided-alike c.what_rules_decide.ensures.order_changes_no_verdict

pub returns-clause-same_start : goal.returns-clause-same_start
returns-clause-same_start c entries others who other owned path alike read asks bytes =
    start-alike c.where_programs_run.ensures.best_fit_is_attached c.which_rank_stands_out.ensures c.order_changes_no_choice.ensures
    path entries others alike read bytes owned who other asks
