use Rattle.std.proofs.Common.{◌≡◌, ◌∙◌, subst}
use Rattle.std.proofs.lemmas.Result.{IfOk-weaker}
use Rattle.aa_explain_paths.specs.Answers.{IsAnswerBy}
use Rattle.aa_explain_paths.specs.Relevant.{relevant_rules}
use Rattle.aa_explain_paths.specs.SeenAsked.{seen_asked}
use Rattle.aa_explain_paths.proofs.RelevantLemmas.{answer-by-all}
use Rattle.aa_explain_paths.proofs.asking.ask_all_paths.Goals as goal

pub returns : goal.returns
returns c =
    let asked = seen_asked c.args.question in
    let own = relevant_rules asked.letters asked.whose c.args.rules.now in
    let is : c.deref.result.now ≡ own = c.deref.ensures.value ∙ c.in_ok-relevant.ensures in
    IfOk-weaker c.ask_relevant.result _ _
    (λ answer right. answer-by-all c.args.rules.now asked c.args.limit answer (subst (λ r. IsAnswerBy r r asked c.args.limit answer) is right)) c.ask_relevant.ensures
