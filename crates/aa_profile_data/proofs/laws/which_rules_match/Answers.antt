use Rattle.aa_profile_data.proofs.MatchingLemmas.{picked-matching}
use Rattle.aa_profile_data.proofs.PlaceLemmas.{rules-found, rules-rise}
use Rattle.aa_profile_data.proofs.laws.which_rules_match.Goals as goal

pub returns-clause-places_pick_the_matching_rules : goal.returns-clause-places_pick_the_matching_rules
returns-clause-places_pick_the_matching_rules c = picked-matching

pub returns-clause-patterns_found_are_of_matching_rules : goal.returns-clause-patterns_found_are_of_matching_rules
returns-clause-patterns_found_are_of_matching_rules c = rules-found

pub returns-clause-picked_places_rise : goal.returns-clause-picked_places_rise
returns-clause-picked_places_rise c = rules-rise
