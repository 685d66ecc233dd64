use Rattle.std.proofs.Common.{◌∙◌, sym}
use Rattle.std.proofs.lemmas.Result.{IfOk-weaker}
use Rattle.aa_explain_redundant.proofs.SameLemmas.{change-or}
use Rattle.aa_explain_redundant.specs.code.Comparing.{all_side, left_side}
use Rattle.aa_explain_redundant.proofs.comparing.answers_change.Goals as goal

pub returns : goal.returns
returns c =
    let none = sym c.if-branch.false ∙ c.in_ok-answers_change_for.ensures in
    IfOk-weaker c.answers_change_for-2.result _ _
    (λ changes is. change-or (all_side c.args.compared) (left_side c.args.compared) c.args.compared.path.now changes none is)
    c.answers_change_for-2.ensures
