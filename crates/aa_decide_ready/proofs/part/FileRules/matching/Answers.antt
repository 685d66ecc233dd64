use Rattle.std.proofs.Common.{◌≡◌, ◌∙◌, ap}
use Rattle.aa_profile_data.specs.FileRules.{places_from, file_patterns}
use Rattle.aa_profile_data.specs.Picked.{picked}
use Rattle.aa_decide_ready.proofs.part.FileRules.matching.Goals as goal

pub returns-in_err-found-clause-steps : goal.returns-in_err-found-clause-steps
returns-in_err-found-clause-steps c rules is =
    record { within = λ states. c.matching.ensures.steps (file_patterns rules) states is.automaton; first = c.matching.ensures.first (file_patterns rules) is.automaton }

pub returns-clause-found : goal.returns-clause-found
returns-clause-found c rules is =
    let found = c.in_ok-found.found.items in
    let same : c.pick.new.places.items ≡ picked (places_from 0 rules) found = c.pick.ensures ∙ ap (λ all. picked all found) (c.as_slice.ensures ∙ is.places) in
    rw same (c.which_rules_match.ensures.patterns_found_are_of_matching_rules rules c.args.path.now found (c.in_ok-found.ensures.found (file_patterns rules) is.automaton))

pub returns-clause-rise : goal.returns-clause-rise
returns-clause-rise c rules is =
    let found = c.in_ok-found.found.items in
    let same : c.pick.new.places.items ≡ picked (places_from 0 rules) found = c.pick.ensures ∙ ap (λ all. picked all found) (c.as_slice.ensures ∙ is.places) in
    rw same (c.which_rules_match.ensures.picked_places_rise rules found c.in_ok-found.ensures.rise)

pub returns-clause-steps : goal.returns-clause-steps
returns-clause-steps c rules is =
    record { within = λ states. c.matching.ensures.steps (file_patterns rules) states is.automaton; first = c.matching.ensures.first (file_patterns rules) is.automaton }
