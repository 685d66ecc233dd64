-- What one side of a part has alone is told once.
use Rattle.std.proofs.Common.{◌≡◌, zero, suc, Bool, true, false, not, cond, List, [], ◌∷◌, ◌++◌, flat_map, Option, None, Some, arith, inl, inr, refl, sym, ap, subst, ◌∙◌}
use Rattle.std.proofs.lemmas.List.Elements.{Contains-append_cases, Contains-append_left, Contains-append_right}
use Rattle.std.specs.List.{Contains}
use Rattle.aa_explain_diff.specs.Features.{Feature}
use Rattle.aatry_changes.specs.Folded.{all_havings, groups_of, having_if, having_of, havings_in, havings_of, is_own, is_own_change, own_features, own_if}
use Rattle.aatry_changes.specs.Laws.{IsTold}
use Rattle.aatry_changes.specs.PartChanges.{OfChanged, PartChange}
use Rattle.aatry_changes.specs.code.Steps.{gathered_changes}
use Rattle.aatry_policy.specs.Parts.{Part}
use Rattle.aatry_shared.specs.Sharing.{Change, Group, Having, change_at, gathered, gathered_behind, is_shared, shared, with_having}
use Rattle.aatry_shared.specs.SharingLaws.{IsNamedOnce}
use Rattle.aatry_shared.specs.declared.side.Side.{Side}
use Rattle.aatry_shared.specs.declared.side.Side.TheVariants.{New, Old}

-- changes that are gathered behind others, part by part
pub gathered_both : (groups : List Group) (havings more : List Having)
    → gathered_behind groups (havings ++ more) ≡ gathered_behind (gathered_behind groups havings) more
gathered_both groups [] more = refl
gathered_both groups (having ∷ havings) more = gathered_both (with_having having groups) havings more

-- so they are gathered of all
pub all_gathered : (groups : List Group) (changes : List PartChange) → gathered_changes groups changes ≡ gathered_behind groups (all_havings changes)
all_gathered groups [] = refl
all_gathered groups (change ∷ changes) =
    all_gathered (gathered_behind groups (havings_in change)) changes ∙ sym (gathered_both groups (havings_in change) (all_havings changes))

-- what one of some has all have together
flat-there : {A B : Type 0} (all : A → List B) (items : List A) (item : A) (one : B) → Contains items item → Contains (all item) one
    → Contains (flat_map all items) one
flat-there all [] item one there own = absurd (omega (arith, there.1))
flat-there all (first ∷ items) item one (zero, within, is) own =
    Contains-append_left (all first) (flat_map all items) one (subst (λ i. Contains (all i) one) (sym is) own)
flat-there all (first ∷ items) item one (suc k, within, is) own =
    Contains-append_right (all first) (flat_map all items) one (flat-there all items item one (k, omega (arith, within), is) own)

-- a list of one
alone-there : {A : Type 0} (item : A) → Contains (item ∷ []) item
alone-there item = (0, omega arith, refl)

alone-same : {A : Type 0} (item other : A) → Contains (item ∷ []) other → item ≡ other
alone-same item other (zero, within, is) = is
alone-same item other (suc k, within, is) = absurd (omega (arith, within))

-- the part has the change that a feature is
has-it : (part : Part) (side : Side) (features : List Feature) (feature : Feature) (change : Change) → Contains features feature
    → change_at part side feature ≡ Some change → Contains (havings_of part side features) (record { name = part.name; change = change })
has-it part side features feature change there is =
    flat-there (having_of part side) features feature (record { name = part.name; change = change }) there
    (subst (λ (found : Option Change). Contains (having_if part found) (record { name = part.name; change = change })) (sym is)
    (alone-there (record { name = part.name; change = change })))

-- what a law says of changes that are shared
abbrev pub OnceLaw : Type 0
OnceLaw =
    (havings : List Having) (having : Having) → Contains havings having → is_shared (gathered havings) having.change ≡ true
    → IsNamedOnce (shared (gathered havings)) having

module _ (law : OnceLaw) (changes : List PartChange) (part : Part) (side : Side) (features : List Feature) (feature : Feature) where
  -- a feature is told below the part, or by what is shared
  told-once : Contains features feature
      → ((change : Change) → change_at part side feature ≡ Some change → Contains (all_havings changes) (record { name = part.name; change = change }))
      → IsTold (groups_of changes) part side features feature
  told-once there has = by (change_at part side feature) refl
    where
      below : is_own (groups_of changes) part side feature ≡ true → IsTold (groups_of changes) part side features feature
      below own =
          inl (own, flat-there (own_if (groups_of changes) part side) features feature feature there (rw own (alone-there feature)))

      by-shared : (change : Change) → change_at part side feature ≡ Some change → (shares : Bool) → is_shared (groups_of changes) change ≡ shares
          → IsTold (groups_of changes) part side features feature
      by-shared change is true e =
          inr (
            ap (is_own_change (groups_of changes)) is ∙ ap not e,
            (change, is, law (all_havings changes) (record { name = part.name; change = change }) (has change is) e),
          )
      by-shared change is false e = below (ap (is_own_change (groups_of changes)) is ∙ ap not e)

      by : (found : Option Change) → change_at part side feature ≡ found → IsTold (groups_of changes) part side features feature
      by None is = below (ap (is_own_change (groups_of changes)) is)
      by (Some change) is = by-shared change is (is_shared (groups_of changes) change) refl

module _ (law : OnceLaw) (changes : List PartChange) (part other : Part) (less more : List Feature) (feature : Feature)
    (there : Contains changes (OfChanged part other less more)) where
  pub old-told : Contains less feature → IsTold (groups_of changes) part Old less feature
  old-told own =
      told-once law changes part Old less feature own (λ change is.
      flat-there havings_in changes (OfChanged part other less more) (record { name = part.name; change = change }) there
      (Contains-append_left (havings_of part Old less) (havings_of other New more) (record { name = part.name; change = change })
      (has-it part Old less feature change own is)))

  pub new-told : Contains more feature → IsTold (groups_of changes) other New more feature
  new-told own =
      told-once law changes other New more feature own (λ change is.
      flat-there havings_in changes (OfChanged part other less more) (record { name = other.name; change = change }) there
      (Contains-append_right (havings_of part Old less) (havings_of other New more) (record { name = other.name; change = change })
      (has-it other New more feature change own is)))

-- what stands below a part it has alone, and it isn't shared
pub own-told : (groups : List Group) (part : Part) (side : Side) (features : List Feature) (feature : Feature)
    → Contains (own_features groups part side features) feature → Contains features feature × (is_own groups part side feature ≡ true)
own-told groups part side [] feature there = absurd (omega (arith, there.1))
own-told groups part side (first ∷ features) feature there =
    elim (Contains-append_cases (own_if groups part side first) (own_features groups part side features) feature there) [
      | inl own ↦ by (is_own groups part side first) refl own
      | inr rest ↦ behind (own-told groups part side features feature rest)
    ]
  where
    behind : Contains features feature × (is_own groups part side feature ≡ true) → Contains (first ∷ features) feature × (is_own groups part side feature ≡ true)
    behind ((k, within, is), own) = ((suc k, omega (arith, within), is), own)

    by : (kept : Bool) → is_own groups part side first ≡ kept → Contains (cond kept (first ∷ []) []) feature
        → Contains (first ∷ features) feature × (is_own groups part side feature ≡ true)
    by true e own =
        let same = alone-same first feature own in
        ((0, omega arith, same), ap (is_own groups part side) (sym same) ∙ e)
    by false e own = absurd (omega (arith, own.1))
