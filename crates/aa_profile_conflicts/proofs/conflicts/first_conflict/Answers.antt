use Rattle.std.proofs.Common.{◌∙◌, ap}
use Rattle.aa_profile_conflicts.proofs.FirstLemmas.{first-of-all}
use Rattle.aa_profile_conflicts.specs.Conflicting.{lesser}
use Rattle.aa_profile_conflicts.proofs.conflicts.first_conflict.Goals as goal

pub returns : goal.returns
returns c =
    c.lesser.ensures
    ∙ ap (λ above. lesser above c.in_ok-last.last) c.lesser-above.ensures
    ∙ first-of-all c.args.rules.now c.in_ok-plain.plain c.in_ok-loose.loose c.in_ok-last.last c.in_ok-plain.ensures c.in_ok-loose.ensures c.in_ok-last.ensures
