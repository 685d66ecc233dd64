use Rattle.std.proofs.Common.{◌∙◌, ◌++◌, ap}
use Rattle.aa_explain_changes.specs.Sides.{seen_sides}
use Rattle.aatry_path_changes.specs.Others.{answers_of, changed_by}
use Rattle.aatry_path_changes.proofs.others.push_if.Goals as goal

pub returns : goal.returns
returns c =
    let answers = c.answers_to-answers.ensures ∙ ap (answers_of (seen_sides c.args.sides)) c.request_of-request.ensures in
    c.in_ok-push_by.ensures ∙ (λ i. c.args.found.now.items ++ changed_by c.args.sides.quiet c.args.other (answers i))
