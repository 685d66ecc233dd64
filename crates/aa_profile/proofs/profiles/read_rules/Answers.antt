use Rattle.std.proofs.Common.{◌∙◌, sym, ap, Some}
use Rattle.std.proofs.lemmas.Result.{err_from_is_err_and}
use Rattle.aa_profile.proofs.ProfileLemmas.{first_rule_bad}
use Rattle.aa_profile.proofs.profiles.read_rules.Goals as goal

pub returns-in_err-push_rule-clause-refused : goal.returns-in_err-push_rule-clause-refused
returns-in_err-push_rule-clause-refused c =
    let p = err_from_is_err_and c.from_residual.result c.from_residual.ensures.1 in
    rw p.1 (λ other.
    sym c.loop-rest.invariant.refusal
    ∙ first_rule_bad c.args.table.now c.loop-rest.rest.now _ c.in_err-push_rule.field-0.0 c.in-len1-up.len_at_least ((rw c.loop-rest.invariant.same at c.in_err-push_rule.ensures.refused) (λ e. other (p.2 ∙ e)))
    ∙ ap Some (sym p.2))
