use Rattle.std.proofs.Common.{◌≡◌, ◌∙◌, [], ap, map, subst, sym}
use Rattle.aa_explain_paths.proofs.MatchedLemmas.{outcome-rules}
use Rattle.aa_explain_redundant.proofs.KindLemmas.{standing-all}
use Rattle.aa_explain_redundant.specs.Left.{left_of, matching, rules_among}
use Rattle.aa_explain_redundant.specs.Seen.{seen_numbered}
use Rattle.aa_profile_data.specs.FileRules.{places_from}
use Rattle.aa_profile_data.specs.Matching.{AreMatchingRules}
use Rattle.aa_profile_data.specs.Picked.{picked}
use Rattle.aa_explain_redundant.proofs.kinds.kind_of.Goals as goal

pub returns-clause-kind : goal.returns-clause-kind
returns-clause-kind c =
    let numbered = map seen_numbered c.args.rules.now in
    let rules = rules_among numbered in
    let path = c.args.outcome.path.items in
    let law = c.which_rules_match.ensures in
    let is = c.requires.outcome in
    let found = outcome-rules rules is.patterns is.unasked is.classes c.args.outcome (law.patterns_found_are_of_matching_rules rules) (law.picked_places_rise rules) is.outcome in
    let places : c.deref-2.result.now ≡ picked (places_from 0 rules) c.args.outcome.places.items =
    c.deref-2.ensures.value ∙ c.in_ok-places.ensures ∙ (λ i. picked (c.requires.numbers i) (c.deref.ensures.value i)) in
    let are : AreMatchingRules rules path c.deref-2.result.now = subst (AreMatchingRules rules path) (sym places) found.0 in
    let same : map seen_numbered c.in_ok-matching.matching.items ≡ matching path numbered =
    c.in_ok-matching.ensures ∙ standing-all path c.deref-2.result.now numbered are in
    record {
      found = same;
      all = c.in_ok-all.ensures.rules ∙ ap (λ l. left_of [] (map seen_numbered l)) c.deref-3.ensures.value ∙ ap (left_of []) same;
      counted = c.in_ok-all.ensures.counted;
    }
