use Rattle.std.proofs.Common.{◌≡◌, ◌∙◌, ap, length, subst, sym}
use Rattle.aa_explain_changes.proofs.KindLemmas.{new-places, old-places}
use Rattle.aa_explain_changes.proofs.PlaceLemmas.{as-many}
use Rattle.aa_explain_changes.specs.Sides.{seen_sides}
use Rattle.aa_explain_changes.specs.code.Kinds.{AreSidePlaces, places_behind}
use Rattle.aa_profile_data.specs.FileRules.{file_patterns, places_from}
use Rattle.aa_profile_data.specs.Picked.{picked}
use Rattle.aa_explain_changes.proofs.kinds.kind_of.Goals as goal

pub kind_with-requires-clause-old : goal.kind_with-requires-clause-old
kind_with-requires-clause-old c =
    let picks : c.deref.result.now ≡ places_from 0 c.args.sides.old.rules.now = c.deref.ensures.value ∙ c.requires.old in
    let is : c.in_ok-old.old.items ≡ picked (places_from 0 c.args.sides.old.rules.now) c.args.outcome.places.items =
    c.in_ok-old.ensures ∙ (λ i. picked (picks i) (c.deref-2.ensures.value i)) in
    subst (AreSidePlaces c.args.sides.old.rules.now c.args.outcome.path.items) (sym is)
    (old-places c.which_rules_match.ensures.patterns_found_are_of_matching_rules c.which_rules_match.ensures.picked_places_rise (seen_sides c.args.sides)
    c.requires.outcome.0 c.args.outcome c.requires.outcome.1)

pub kind_with-requires-clause-new : goal.kind_with-requires-clause-new
kind_with-requires-clause-new c =
    let count : c.len.result ≡ length (file_patterns c.args.sides.old.rules.now) = c.len.ensures ∙ sym c.deref.ensures.len ∙ ap length (c.deref.ensures.value ∙ c.requires.old) ∙ as-many 0 c.args.sides.old.rules.now in
    let later : c.deref-5.result.now ≡ places_behind (length (file_patterns c.args.sides.old.rules.now)) c.args.outcome.places.items =
    c.deref-5.ensures.value ∙ c.in_ok-behind.ensures ∙ (λ i. places_behind (count i) (c.deref-3.ensures.value i)) in
    let picks : c.deref-4.result.now ≡ places_from 0 c.args.sides.new.rules.now = c.deref-4.ensures.value ∙ c.requires.new in
    let is : c.in_ok-new.new.items
    ≡ picked (places_from 0 c.args.sides.new.rules.now) (places_behind (length (file_patterns c.args.sides.old.rules.now)) c.args.outcome.places.items) =
    c.in_ok-new.ensures ∙ (λ i. picked (picks i) (later i)) in
    subst (AreSidePlaces c.args.sides.new.rules.now c.args.outcome.path.items) (sym is)
    (new-places c.which_rules_match.ensures.patterns_found_are_of_matching_rules c.which_rules_match.ensures.picked_places_rise (seen_sides c.args.sides)
    c.requires.outcome.0 c.args.outcome c.requires.outcome.1)
