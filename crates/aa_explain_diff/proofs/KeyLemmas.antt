-- One more feature, among those of a table.
use Rattle.std.proofs.Common.{◌≡◌, ℕ, zero, suc, ◌<◌, Bool, true, false, ◌||◌, if◌then◌else◌, List, [], ◌∷◌, ◌++◌, length, map, get_or, arith, refl, sym, ap, ◌∙◌}
use Rattle.std.proofs.Math.Bool.{or-false}
use Rattle.std.proofs.lemmas.List.Folds.{list_any-append}
use Rattle.std.specs.Prelude.{IsTrue}
use Rattle.indexmap.specs.IndexSet.{insert_key}
use Rattle.aa_explain_diff.specs.Features.{Feature, has_feature, same_feature, seen_feature}
use Rattle.aa_explain_diff.specs.code.Keys.{is_among, same_key}
use Rattle.aa_explain_diff.specs.code.SameKeys.{feature-equiv}
use Rattle.aa_explain_diff.specs.declared.features.Feature.{Feature as CodeFeature}

-- features that are the same are among the same keys
among-same : (keys : List CodeFeature) (one other : Feature) → same_feature one other ≡ true → is_among keys one ≡ is_among keys other
among-same [] one other same = refl
among-same (key ∷ keys) one other same =
    λ i. feature-equiv.congr one other (seen_feature key) same i || among-same keys one other same i

module _ (keys : List CodeFeature) (one : CodeFeature) (feature : Feature) where
  -- one that is there already adds nothing
  known : is_among keys (seen_feature one) ≡ true → is_among keys feature ≡ (is_among keys feature || same_feature feature (seen_feature one))
  known h = by (same_feature feature (seen_feature one)) refl
    where
      by : (same : Bool) → same_feature feature (seen_feature one) ≡ same → is_among keys feature ≡ (is_among keys feature || same)
      by true e =
          let there : is_among keys feature ≡ true = among-same keys feature (seen_feature one) e ∙ h in
          there ∙ sym (ap (λ b. b || true) there)
      by false e = sym (or-false (is_among keys feature))

  -- a feature is among some with one more where it was, or is that one
  pub among-more : is_among (insert_key same_key keys one) feature ≡ (is_among keys feature || same_feature feature (seen_feature one))
  among-more = by (is_among keys (seen_feature one)) refl
    where
      by : (there : Bool) → is_among keys (seen_feature one) ≡ there
          → is_among (if there then keys else keys ++ one ∷ []) feature ≡ (is_among keys feature || same_feature feature (seen_feature one))
      by true h = known h
      by false h =
          list_any-append (λ other. same_feature feature (seen_feature other)) keys (one ∷ [])
          ∙ ap (λ b. is_among keys feature || b) (or-false (same_feature feature (seen_feature one)))

-- features with one more have what these have, and that one
pub has-more : (features : List Feature) (one feature : Feature)
    → has_feature (features ++ one ∷ []) feature ≡ (has_feature features feature || same_feature feature one)
has-more features one feature =
    list_any-append (same_feature feature) features (one ∷ []) ∙ ap (λ b. has_feature features feature || b) (or-false (same_feature feature one))

-- a feature that is the same as the one at a place of some is among these
pub has-at : (features : List CodeFeature) (place : ℕ) (one : CodeFeature) (feature : Feature) → place < length features
    → one ≡ get_or features place one → IsTrue (same_feature feature (seen_feature one)) → has_feature (map seen_feature features) feature ≡ true
has-at [] place one feature within is same = absurd (omega arith)
has-at (first ∷ features) zero one feature within is same =
    ap (λ b. b || has_feature (map seen_feature features) feature) (ap (λ (own : CodeFeature). same_feature feature (seen_feature own)) (sym is) ∙ same)
has-at (first ∷ features) (suc place) one feature within is same =
    by (same_feature feature (seen_feature first)) (has-at features place one feature (omega arith) is same)
  where
    by : (own : Bool) → has_feature (map seen_feature features) feature ≡ true → (own || has_feature (map seen_feature features) feature) ≡ true
    by true there = refl
    by false there = there
