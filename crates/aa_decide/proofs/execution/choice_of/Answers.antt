use Rattle.std.specs.List.Sorted.{IsStrictlyIncreasing}
use Rattle.std.proofs.lemmas.Result.{IfOk-weaker}
use Rattle.aa_profile_data.specs.Matching.{AreMatchingRules}
use Rattle.aa_decide.proofs.execution.choice_of.Goals as goal

pub returns : goal.returns
returns c =
    let path = c.args.path.now in
    let are : AreMatchingRules c.args.section.rules.now path c.as_slice.result.now = rw c.as_slice.ensures.value c.in_ok-places.ensures.found in
    let rise : IsStrictlyIncreasing c.as_slice.result.now = rw c.as_slice.ensures.value c.in_ok-places.ensures.rise in
    IfOk-weaker c.exec_choice.result _ _ (λ found is. is path are rise) c.exec_choice.ensures
