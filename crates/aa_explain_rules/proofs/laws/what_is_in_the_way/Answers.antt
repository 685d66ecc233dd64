use Rattle.aa_explain_rules.proofs.WayLemmas.{in-the-way, others-agree}
use Rattle.aa_explain_rules.proofs.laws.what_is_in_the_way.Goals as goal

pub returns-clause-those_that_conflict : goal.returns-clause-those_that_conflict
returns-clause-those_that_conflict c letters owned path rules own rule h bytes =
    in-the-way c.quoted_text_reads_as_itself.ensures c.quoted_text_matches_itself.ensures letters owned path rules own h bytes rule

pub returns-clause-others_agree : goal.returns-clause-others_agree
returns-clause-others_agree c =
    others-agree c.quoted_text_reads_as_itself.ensures c.quoted_text_matches_itself.ensures c.how_conflicts_are_tested.ensures.conflict_is_exact
