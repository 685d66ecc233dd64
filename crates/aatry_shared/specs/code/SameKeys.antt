-- Changes are the same exactly where they are equal.
use Rattle.std.proofs.Common.{◌≡◌, true, ◌&&◌, ◌==◌, refl, ap, sym, ◌∙◌}
use Rattle.std.proofs.lemmas.Bool.{and_parts, eq-eqb, eqb-true}
use Rattle.std.proofs.lemmas.Slice.Eq.{bytes_eq-Decides}
use Rattle.std.specs.Cmp.{IsEquivalence, both_ways, on_equiv}
use Rattle.std.specs.Prelude.{IsTrue}
use Rattle.std.specs.Str.{bytes_eq}
use Rattle.aatry_shared.specs.SeenSharing.{seen_change}
use Rattle.aatry_shared.specs.Sharing.{Change, same_change, same_side}
use Rattle.aatry_shared.specs.code.Keys.{hashed, same_key}
use Rattle.aatry_shared.specs.declared.change.Change.{Change as CodeChange}
use Rattle.aatry_shared.specs.declared.side.Side.{Side}
use Rattle.aatry_shared.specs.declared.side.Side.TheVariants.{New, Old}

side-equal : (one other : Side) → same_side one other ≡ true → one ≡ other
side-equal Old Old same = refl
side-equal New New same = refl
side-equal Old New same = absurd (cc)
side-equal New Old same = absurd (cc)

side-self : (one : Side) → same_side one one ≡ true
side-self Old = refl
side-self New = refl

pub change-equal : (one other : Change) → same_change one other ≡ true → one ≡ other
change-equal one other same =
    let h3 = and_parts (same_side one.side other.side && (one.place.file == other.place.file) && (one.place.at == other.place.at)) (bytes_eq one.text other.text) same in
    let h2 = and_parts (same_side one.side other.side && (one.place.file == other.place.file)) (one.place.at == other.place.at) h3.0 in
    let h1 = and_parts (same_side one.side other.side) (one.place.file == other.place.file) h2.0 in
    let side = side-equal one.side other.side h1.0 in
    let file = eqb-true one.place.file other.place.file h1.1 in
    let at = eqb-true one.place.at other.place.at h2.1 in
    let text = (bytes_eq-Decides one.text other.text).0 h3.1 in
    λ i. record { side = side i; place = record { file = file i; at = at i }; text = text i }

pub change-self : (one : Change) → same_change one one ≡ true
change-self one =
    λ i. side-self one.side i && eq-eqb one.place.file one.place.file refl i && eq-eqb one.place.at one.place.at refl i
    && (bytes_eq-Decides one.text one.text).1 refl i

equal-change : (one other : Change) → one ≡ other → same_change one other ≡ true
equal-change one other equal = ap (same_change one) (sym equal) ∙ change-self one

-- to be the same is an equivalence
change-equiv : IsEquivalence same_change
change-equiv = record {
  refl = change-self;
  symm = λ one other. both_ways (same_change one other) (same_change other one)
      (λ same. equal-change other one (sym (change-equal one other same)))
      (λ same. equal-change one other (sym (change-equal other one same)));
  congr = λ one other third same. both_ways (same_change one third) (same_change other third)
      (λ there. equal-change other third (sym (change-equal one other same) ∙ change-equal one third there))
      (λ there. equal-change one third (change-equal one other same ∙ change-equal other third there));
}

pub same-equiv : IsEquivalence same_key
same-equiv = on_equiv seen_change change-equiv

pub same-hashed : (one other : CodeChange) → IsTrue (same_key one other) → hashed (seen_change one) ≡ hashed (seen_change other)
same-hashed one other same = ap hashed (change-equal (seen_change one) (seen_change other) same)
