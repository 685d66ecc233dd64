use Rattle.aa_decide_rules.proofs.RankLemmas.{stands_out-from, stands_out-holds}
use Rattle.aa_decide_rules.proofs.attachment_laws.which_rank_stands_out.Goals as goal

pub returns : goal.returns
returns c ranks place = (stands_out-holds ranks place, stands_out-from ranks place)
