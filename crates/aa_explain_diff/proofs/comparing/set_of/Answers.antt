use Rattle.std.proofs.Common.{◌++◌, ◌∷◌, ◌∙◌, ◌||◌, List, [], ap, get_or, map, sym}
use Rattle.std.specs.Prelude.{take}
use Rattle.std.proofs.lemmas.List.{map-append, take_more}
use Rattle.aa_explain_diff.specs.Features.{has_feature, same_feature, seen_feature}
use Rattle.aa_explain_diff.specs.code.Keys.{is_among}
use Rattle.aa_explain_diff.specs.declared.features.Feature.{Feature as CodeFeature}
use Rattle.aa_explain_diff.proofs.KeyLemmas.{among-more, has-more}
use Rattle.aa_explain_diff.proofs.comparing.set_of.Goals as goal

-- what the features so far have, and this one
pub loop-feature-preserved : goal.loop-feature-preserved
loop-feature-preserved c = λ feature.
    let features = c.args.features.now in
    let at = c.loop-feature.feature-index in
    let one = c.feature-item.result in
    ap (λ keys. is_among keys feature) c.in_ok-insert.ensures.keys
    ∙ among-more c.loop-feature.keys.keys one feature
    ∙ ap (λ had. had || same_feature feature (seen_feature one)) (c.loop-feature.invariant feature)
    ∙ sym (has-more (map seen_feature (take at features)) (seen_feature one) feature)
    ∙ ap (λ (own : CodeFeature). has_feature (map seen_feature (take at features) ++ seen_feature own ∷ []) feature) c.feature-item.is
    ∙ ap (λ had. has_feature had feature) (sym (map-append seen_feature (take at features) (get_or features at one ∷ [])))
    ∙ ap (λ (front : List CodeFeature). has_feature (map seen_feature front) feature) (sym (take_more features at one c.loop-feature-test.true))
