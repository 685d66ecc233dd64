use Rattle.std.proofs.Common.{◌∙◌, ap}
use Rattle.aa_decide_rules.specs.Choices.{choice}
use Rattle.aa_decide_rules.specs.Verdict.{verdict}
use Rattle.aa_explain_diff.proofs.AlikeLemmas.{one-head, one-rules}
use Rattle.aa_explain_diff.proofs.laws.sections_alike_answer_alike.Goals as goal

pub returns-clause-head : goal.returns-clause-head
returns-clause-head c = one-head

pub returns-clause-same_rules : goal.returns-clause-same_rules
returns-clause-same_rules c = one-rules

pub returns-clause-same_verdict : goal.returns-clause-same_verdict
returns-clause-same_verdict c one other mediation request alike =
    let head = one-head one other alike in
    ap (λ audit. verdict mediation audit one.rules request) head.audit
    ∙ c.what_rules_decide.ensures.order_changes_no_verdict mediation other.audit one.rules other.rules request (one-rules one other alike)

pub returns-clause-same_choice : goal.returns-clause-same_choice
returns-clause-same_choice c one other owned path alike agrees read bytes =
    let head = one-head one other alike in
    ap (λ audit. choice audit owned path one.rules) head.audit
    ∙ c.order_changes_no_choice.ensures other.audit owned path one.rules other.rules (one-rules one other alike) agrees read bytes
