use Rattle.aa_decide_rules.proofs.FoundLemmas.{found-verdict}
use Rattle.aa_decide_rules.proofs.laws.what_matching_rules_decide.Goals as goal

pub returns : goal.returns
returns c mediation audit rules letters owned path places are rise =
    found-verdict mediation audit rules letters owned path places (c.which_rules_match.ensures.places_pick_the_matching_rules rules path places are rise)
