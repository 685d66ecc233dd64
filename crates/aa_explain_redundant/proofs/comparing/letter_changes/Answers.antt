use Rattle.std.proofs.Common.{◌≡◌, ◌∙◌, ap, false}
use Rattle.aa_explain_changes.specs.Changes.{change_between, is_change}
use Rattle.aa_explain_changes.specs.Sides.{side_verdict}
use Rattle.aa_decide_rules.specs.Verdict.{verdict}
use Rattle.aa_decide_rules.specs.declared.judgement.Mediation.TheVariants.{Enforcing}
use Rattle.aa_profile_data.specs.Request.{ForFile}
use Rattle.aa_explain_redundant.specs.code.Comparing.{all_side, left_side}
use Rattle.aa_explain_redundant.proofs.comparing.letter_changes.Goals as goal

pub returns : goal.returns
returns c =
    let letter = c.args.letter.0 in
    let owned = c.args.owned in
    let audit = c.args.compared.audit in
    let before : c.matched_verdict-before.result ≡ side_verdict (all_side c.args.compared) c.args.compared.path.now owned letter =
    c.matched_verdict-before.ensures ∙ (λ i. verdict Enforcing audit (c.matched-all.ensures.rules i) (ForFile letter owned (c.matched-all.ensures.path i))) in
    let now : c.matched_verdict-now.result ≡ side_verdict (left_side c.args.compared) c.args.compared.path.now owned letter =
    c.matched_verdict-now.ensures ∙ (λ i. verdict Enforcing audit (c.matched-left.ensures.rules i) (ForFile letter owned (c.matched-left.ensures.path i))) in
    c.is_change.ensures ∙ ap is_change (c.change_between.ensures ∙ (λ i. change_between false (before i) (now i)))
