use Rattle.std.proofs.Common.{◌∙◌}
use Rattle.aa_decide_rules.proofs.MatchingLemmas.{best-matching}
use Rattle.aa_decide_rules.proofs.patterns.best_rank.Goals as goal

pub returns : goal.returns
returns c path are = c.best_among.ensures ∙ best-matching c.args.patterns.now path c.args.places.now are
