-- Where no part of two folders is counted, each of either has its counterpart in the other.
use Rattle.std.proofs.Common.{◌≡◌, ℕ, zero, suc, ◌==◌, Bool, true, false, not, ◌&&◌, cond, List, [], ◌∷◌, filter, length, Option, None, Some}
use Rattle.std.proofs.Common.{refl, sym, ap, ◌∙◌, arith}
use Rattle.std.specs.Prelude.{is_none}
use Rattle.std.specs.List.{Contains}
use Rattle.std.specs.Str.{bytes_eq}
use Rattle.std.proofs.lemmas.Bool.{and_parts, eqb-true}
use Rattle.aa_bytes.specs.Texts.{is_empty}
use Rattle.aa_explain_diff.specs.Features.{are_alike as are_sections_alike}
use Rattle.aatry_changes.specs.PartChanges.{alone, changed_count, is_changed, is_gone_or_changed, is_gone_or_changed_by, is_new}
use Rattle.aatry_changes.specs.Laws.{HasAlike}
use Rattle.aatry_diff.specs.Comparing.{are_alike}
use Rattle.aatry_diff.specs.Sources.{differing_count}
use Rattle.aatry_policy.specs.FolderParts.{by_parts, parts_in}
use Rattle.aatry_policy.specs.Folders.{Folder, policy_in}
use Rattle.aatry_policy.specs.Parts.{Part, part_of}
use Rattle.aatry_requests.specs.Gathering.{Gathered}

-- what fails a test is what isn't kept by it
none-kept : (test : Part → Bool) (parts : List Part) → length (filter test parts) ≡ 0 → (part : Part) → Contains parts part → test part ≡ false
none-kept test [] none part c = absurd (omega (arith, c.1))
none-kept test (first ∷ parts) none part c = by (test first) refl none c (none-kept test parts)
  where
    by : (kept : Bool) → test first ≡ kept → length (cond kept (first ∷ filter test parts) (filter test parts)) ≡ 0 → Contains (first ∷ parts) part
        → (length (filter test parts) ≡ 0 → (part : Part) → Contains parts part → test part ≡ false) → test part ≡ false
    by true e none c rest = absurd (omega arith)
    by false e none (zero, within, is) rest = ap test (sym is) ∙ e
    by false e none (suc k, within, is) rest = rest none part (k, omega (arith, within), is)

-- the part of a name is one of the parts
pub part-there : (parts : List Part) (name : List ℕ) (found : Part) → part_of parts name ≡ Some found → Contains parts found
part-there [] name found is = absurd (cc)
part-there (part ∷ parts) name found is = by (bytes_eq part.name name) is (part-there parts name found)
  where
    by : (same : Bool) → cond same (Some part) (part_of parts name) ≡ Some found → (part_of parts name ≡ Some found → Contains parts found)
        → Contains (part ∷ parts) found
    by true is rest =
        let own : part ≡ found = ap (λ (o : Option Part). elim o [ None ↦ part | Some p ↦ p ]) is in
        (0, omega arith, own)
    by false is rest = let (k, within, there) = rest is in (suc k, omega (arith, within), there)

-- what isn't changed is alike
unchanged : (part other : Part) → is_changed part other ≡ false → are_sections_alike part.section other.section ≡ true
unchanged part other same = by (is_empty (alone part other) && is_empty (alone other part)) same
  where
    by : (b : Bool) → not b ≡ false → b ≡ true
    by true h = refl
    by false h = absurd (cc)

module _ (old new : Folder) (requests : Option Gathered) (alike : are_alike old new requests ≡ true) where
  none-counted : changed_count (by_parts old) (by_parts new) ≡ 0
  none-counted =
      let parts = and_parts (changed_count (by_parts old) (by_parts new) == 0) (differing_count (policy_in old) (policy_in new) requests == 0) alike in
      eqb-true (changed_count (by_parts old) (by_parts new)) 0 parts.0

  none-gone : length (filter (is_gone_or_changed (by_parts new)) (parts_in old)) ≡ 0
  none-gone = let none = none-counted in omega arith

  none-new : length (filter (is_new (by_parts old)) (parts_in new)) ≡ 0
  none-new = let none = none-counted in omega arith

  -- each part of the old folder has one in the new one that is alike
  pub old-alike : (part : Part) → Contains (parts_in old) part → HasAlike (parts_in new) part
  old-alike part there =
      by (part_of (parts_in new) part.name) refl (none-kept (is_gone_or_changed (by_parts new)) (parts_in old) none-gone part there)
    where
      by : (found : Option Part) → part_of (parts_in new) part.name ≡ found → is_gone_or_changed_by part found ≡ false → HasAlike (parts_in new) part
      by None e stays = absurd (cc)
      by (Some other) e stays = (other, e, unchanged part other stays)

  -- and each of the new one has one in the old one
  pub new-there : (part : Part) → Contains (parts_in new) part → (other : Part) × (part_of (parts_in old) part.name ≡ Some other)
  new-there part there =
      by (part_of (parts_in old) part.name) refl (none-kept (is_new (by_parts old)) (parts_in new) none-new part there)
    where
      by : (found : Option Part) → part_of (parts_in old) part.name ≡ found → is_none found ≡ false
          → (other : Part) × (part_of (parts_in old) part.name ≡ Some other)
      by None e stays = absurd (cc)
      by (Some other) e stays = (other, e)
