use Rattle.std.proofs.Common.{◌≡◌, ◌∙◌}
use Rattle.aa_profile_data.specs.FileRules.{places_from}
use Rattle.aa_profile_data.specs.Picked.{picked}
use Rattle.aa_explain_paths.specs.Meant.{unasked_patterns}
use Rattle.aa_explain_paths.specs.Telling.{all_classes}
use Rattle.aa_explain_paths.proofs.MatchedLemmas.{matched-is, outcome-rules}
use Rattle.aa_explain_paths.proofs.asking.breaking_at.Goals as goal

pub broken_by-requires : goal.broken_by-requires
broken_by-requires c =
    let rules = c.args.rules.now in
    let patterns = c.args.question.patterns.now in
    let outcome = c.args.outcome in
    let places : c.deref-2.result.now ≡ picked (places_from 0 rules) outcome.places.items =
    c.deref-2.ensures.value ∙ c.in_ok-places.ensures ∙ (λ i. picked (c.requires.numbers i) (c.deref.ensures.value i)) in
    matched-is (record { rules = c.args.rules; places = c.deref-2.result; path = c.deref-3.result }) outcome.path.items (picked (places_from 0 rules) outcome.places.items)
    (outcome-rules rules patterns unasked_patterns (all_classes rules patterns unasked_patterns) outcome (c.which_rules_match.ensures.patterns_found_are_of_matching_rules rules)
    (c.which_rules_match.ensures.picked_places_rise rules) c.requires.outcome) places c.deref-3.ensures.value
