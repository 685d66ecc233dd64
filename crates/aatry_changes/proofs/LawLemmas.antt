-- Nothing is told of parts that are alike, and parts of which nothing changes are.
use Rattle.std.proofs.Common.{◌≡◌, zero, suc, arith, subst, Bool, true, false, not, ◌&&◌, cond, List, [], ◌∷◌, ◌++◌, flat_map, Option, None, Some, refl, ap, ◌∙◌, sym}
use Rattle.std.specs.List.{Contains}
use Rattle.aa_bytes.specs.Texts.{is_empty}
use Rattle.aa_explain_diff.specs.Features.{are_alike}
use Rattle.aatry_changes.proofs.CountLemmas.{changes-told}
use Rattle.aatry_changes.specs.Changes.{change_lines, folded_lines}
use Rattle.aatry_changes.specs.Laws.{HasAlike, HaveAlike}
use Rattle.aatry_changes.specs.PartChanges.{OfChanged, PartChange, alone, changed, new_change, new_change_by, old_change, old_change_by, part_changes}
use Rattle.aatry_policy.specs.FolderParts.{FolderParts}
use Rattle.aatry_policy.specs.Parts.{Part, part_of}
use Rattle.aatry_report.specs.declared.form.Form.{Form}
use Rattle.aatry_uncertain.specs.LeftOutHeads.{LeftOutHead}

-- a part that is like the other isn't changed
unchanged : (part other : Part) → are_alike part.section other.section ≡ true → changed part other ≡ []
unchanged part other alike =
    ap (λ same. cond (not same) (OfChanged part other (alone part other) (alone other part) ∷ []) []) alike

old-none : (new : FolderParts) (parts : List Part) → HaveAlike new.parts parts → flat_map (old_change new) parts ≡ []
old-none new [] alike = refl
old-none new (part ∷ parts) alike =
    let none : old_change new part ≡ [] = ap (old_change_by part) alike.0.1 ∙ unchanged part alike.0.0 alike.0.2 in
    ap (λ found. found ++ flat_map (old_change new) parts) none ∙ old-none new parts alike.1

new-none : (old : FolderParts) (parts : List Part) → HaveAlike old.parts parts → flat_map (new_change old) parts ≡ []
new-none old [] alike = refl
new-none old (part ∷ parts) alike =
    let none : new_change old part ≡ [] = ap (new_change_by part) alike.0.1 in
    ap (λ found. found ++ flat_map (new_change old) parts) none ∙ new-none old parts alike.1

-- where each part of either folder has its counterpart in the other, nothing is told
pub nothing-told : (form : Form) (heads : List LeftOutHead) (old new : FolderParts) → HaveAlike old.parts new.parts → HaveAlike new.parts old.parts
    → change_lines form heads old new ≡ []
nothing-told form heads old new back there =
    let none : part_changes old new ≡ [] =
    ap (λ found. found ++ flat_map (new_change old) new.parts) (old-none new old.parts there) ∙ new-none old new.parts back in
    ap (folded_lines form heads old new) none

-- a part of which nothing changes has its counterpart
pub untold-alike : (new : FolderParts) (part : Part) → old_change new part ≡ [] → HasAlike new.parts part
untold-alike new part none = by (part_of new.parts part.name) refl none
  where
    same : (other : Part) (b : Bool) → cond (not b) (OfChanged part other (alone part other) (alone other part) ∷ []) [] ≡ [] → b ≡ true
    same other true h = refl
    same other false h = absurd (cc)

    by : (found : Option Part) → part_of new.parts part.name ≡ found → old_change_by part found ≡ [] → HasAlike new.parts part
    by None e none = absurd (cc)
    by (Some other) e none = (other, e, same other (is_empty (alone part other) && is_empty (alone other part)) none)

-- lists that are nothing together are nothing each
first-none : (found more : List PartChange) → found ++ more ≡ [] → found ≡ []
first-none [] more none = refl
first-none (change ∷ found) more none = absurd (cc)

second-none : (found more : List PartChange) → found ++ more ≡ [] → more ≡ []
second-none [] more none = none
second-none (change ∷ found) more none = absurd (cc)

empty-none : (found : List PartChange) → is_empty found ≡ true → found ≡ []
empty-none [] empty = refl
empty-none (change ∷ found) empty = absurd (cc)

each-none : (changes : Part → List PartChange) (parts : List Part) → flat_map changes parts ≡ [] → (part : Part) → Contains parts part → changes part ≡ []
each-none changes [] none part c = absurd (omega (arith, c.1))
each-none changes (first ∷ parts) none part (zero, within, is) =
    subst (λ (part : Part). changes part ≡ []) is (first-none (changes first) (flat_map changes parts) none)
each-none changes (first ∷ parts) none part (suc k, within, is) =
    each-none changes parts (second-none (changes first) (flat_map changes parts) none) part (k, omega (arith, within), is)

-- so is what changes of each part of the old folder where nothing is told of both
pub old-untold : (form : Form) (heads : List LeftOutHead) (old new : FolderParts) → change_lines form heads old new ≡ [] → (part : Part) → Contains old.parts part
    → old_change new part ≡ []
old-untold form heads old new none part c =
    let changes = empty-none (part_changes old new) (sym (changes-told form heads old new) ∙ ap is_empty none) in
    each-none (old_change new) old.parts
    (first-none (flat_map (old_change new) old.parts) (flat_map (new_change old) new.parts) changes) part c
