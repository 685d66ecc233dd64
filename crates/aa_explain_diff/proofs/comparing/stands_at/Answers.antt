use Rattle.std.proofs.Common.{subst}
use Rattle.std.specs.Prelude.{IsTrue}
use Rattle.aa_explain_diff.specs.Features.{seen_feature}
use Rattle.aa_explain_diff.proofs.KeyLemmas.{has-at}
use Rattle.aa_explain_diff.proofs.comparing.stands_at.Goals as goal

pub returns-in-Some : goal.returns-in-Some
returns-in-Some c told =
    has-at c.args.features.now c.args.place c.in-Some.other.now (seen_feature c.args.feature) c.in-Some.ensures.lookup.3.0 c.in-Some.ensures.lookup.1
    (subst IsTrue c.eq.ensures told)
