use Rattle.aa_decide_rules.proofs.BeginningLemmas.{rank-least}
use Rattle.aa_decide_rules.proofs.attachment_laws.exact_patterns_rank_highest.Goals as goal

pub returns : goal.returns
returns c = rank-least
