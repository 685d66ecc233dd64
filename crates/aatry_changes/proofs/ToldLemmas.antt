-- Something is told of whatever changes.
use Rattle.std.proofs.Common.{◌≡◌, ℕ, Bool, true, false, not, ◌&&◌, cond, List, [], ◌∷◌, ◌++◌, codes, flat_map, Option, None, Some, refl, ap, ◌∙◌}
use Rattle.serde_json.specs.Data.{object}
use Rattle.serde_json.specs.Written.{compact_text}
use Rattle.aa_bytes.specs.Bytes.{line_feed}
use Rattle.aa_bytes.specs.Texts.{is_empty}
use Rattle.aa_explain_diff.specs.Features.{Feature}
use Rattle.aatry_changes.specs.Changes.{below_text, changed_heading, folded_lines, gone_word, headed, told_change}
use Rattle.aatry_changes.specs.Folded.{groups_of, is_own_change, own_features}
use Rattle.aatry_changes.specs.PartChanges.{OfChanged, OfGone, OfNew, PartChange, differ}
use Rattle.aatry_folder.specs.PolicyFiles.{PolicyFiles}
use Rattle.aatry_policy.specs.FolderParts.{FolderParts}
use Rattle.aatry_policy.specs.Parts.{Part}
use Rattle.aatry_report.specs.Fields.{Said, Text, Words, in_line, told, with_fields}
use Rattle.aatry_report.specs.Records.{record_of}
use Rattle.aatry_report.specs.declared.form.Form.{Form}
use Rattle.aatry_report.specs.declared.form.Form.TheVariants.{Lines, Records}
use Rattle.aatry_shared.specs.Sharing.{Change, Group, are_several, change_at, is_shared, names_of, same_change}
use Rattle.aatry_shared.specs.SharedLines.{files_of, group_text, shared_lines, shared_text}
use Rattle.aatry_shared.specs.Sides.{kind}
use Rattle.aatry_shared.specs.declared.side.Side.{Side}
use Rattle.aatry_shared.specs.declared.side.Side.TheVariants.{New, Old}
use Rattle.aatry_uncertain.specs.LeftOutHeads.{LeftOutHead}

-- a text with another behind it is empty where both are
pub empty-both : (text more : List ℕ) → is_empty (text ++ more) ≡ (is_empty text && is_empty more)
empty-both [] more = refl
empty-both (b ∷ text) more = refl

-- one that ends in something isn't
pub filled : (front behind : List ℕ) → is_empty behind ≡ false → is_empty (front ++ behind) ≡ false
filled [] behind h = h
filled (b ∷ front) behind h = refl

-- nor is one that begins with something
pub begun : (front behind : List ℕ) → is_empty front ≡ false → is_empty (front ++ behind) ≡ false
begun front behind h = empty-both front behind ∙ ap (λ b. b && is_empty behind) h

and-none : (a b : Bool) → b ≡ false → (a && b) ≡ false
and-none true b h = h
and-none false b h = refl

-- a line or a record is something
pub told-some : (form : Form) (kind : List ℕ) (parts : List Said) → is_empty (told form kind parts) ≡ false
told-some Lines kind parts = filled (flat_map in_line parts) (line_feed ∷ []) refl
told-some Records kind parts = filled (compact_text (object (with_fields parts (record_of kind)))) (line_feed ∷ []) refl

-- something stands before the lines of a part
pub headed-told : (form : Form) (word name : List ℕ) → is_empty (headed form word name) ≡ false
headed-told form word name = told-some form word (Words word ∷ Words (codes ": ") ∷ Text (codes "name") name ∷ [])

-- something is told of a change that several have
shared-told : (form : Form) (below : PolicyFiles) (group : Group) → is_empty (shared_text form below group) ≡ false
shared-told form below group = told-some form (kind group.change.side) _

module _ (form : Form) (old new : PolicyFiles) where
  -- where a change is shared, something is told of what is
  some-shared : (groups : List Group) (change : Change) → is_shared groups change ≡ true → is_empty (shared_lines form old new groups) ≡ false
  some-shared [] change several = absurd (cc)
  some-shared (group ∷ groups) change several = by (same_change change group.change) several (some-shared groups change)
    where
      both : is_empty (shared_lines form old new (group ∷ groups)) ≡ (is_empty (group_text form old new group) && is_empty (shared_lines form old new groups))
      both = empty-both (group_text form old new group) (shared_lines form old new groups)

      told : (kept : Bool) → kept ≡ true → is_empty (cond kept (shared_text form (files_of old new group.change.side) group) []) ≡ false
      told true h = shared-told form (files_of old new group.change.side) group
      told false h = absurd (cc)

      by : (same : Bool) → are_several (cond same group.names (names_of change groups)) ≡ true
          → (is_shared groups change ≡ true → is_empty (shared_lines form old new groups) ≡ false)
          → is_empty (shared_lines form old new (group ∷ groups)) ≡ false
      by true several rest = both ∙ ap (λ b. b && is_empty (shared_lines form old new groups)) (told (are_several group.names) several)
      by false several rest = both ∙ and-none (is_empty (group_text form old new group)) (is_empty (shared_lines form old new groups)) (rest several)

  -- where a part has something alone and nothing by itself, something is shared
  all-shared : (groups : List Group) (part : Part) (side : Side) (features : List Feature) → is_empty features ≡ false
      → is_empty (own_features groups part side features) ≡ true → is_empty (shared_lines form old new groups) ≡ false
  all-shared groups part side [] some none = absurd (cc)
  all-shared groups part side (feature ∷ features) some none = by (change_at part side feature) none
    where
      own : (change : Change) (shares : Bool) → is_shared groups change ≡ shares
          → is_empty (cond (not shares) (feature ∷ []) [] ++ own_features groups part side features) ≡ true
          → is_empty (shared_lines form old new groups) ≡ false
      own change true e none = some-shared groups change e
      own change false e none = absurd (cc)

      by : (found : Option Change)
          → is_empty (cond (is_own_change groups found) (feature ∷ []) [] ++ own_features groups part side features) ≡ true
          → is_empty (shared_lines form old new groups) ≡ false
      by None none = absurd (cc)
      by (Some change) none = own change (is_shared groups change) refl none

-- what changes is something
abbrev pub IsReal : PartChange → Type 0
IsReal (OfGone part) = Unit
IsReal (OfNew part) = Unit
IsReal (OfChanged part other less more) = differ less more ≡ true

module _ (heads : List LeftOutHead) (old new : FolderParts) (groups : List Group) where
  -- what is told of all that is shared, and of one part
  abbrev both-empty : Form → PartChange → Bool
  both-empty form change = is_empty (shared_lines form old.below new.below groups) && is_empty (told_change form heads old new groups change)

  told-below : (form : Form) (change : PartChange) → is_empty (told_change form heads old new groups change) ≡ false → both-empty form change ≡ false
  told-below form change told = and-none (is_empty (shared_lines form old.below new.below groups)) (is_empty (told_change form heads old new groups change)) told

  changed-told : (part other : Part) (less more : List Feature) → differ less more ≡ true → both-empty Lines (OfChanged part other less more) ≡ false
  changed-told part other less more real =
      by (is_empty (own_features groups part Old less)) refl (is_empty (own_features groups other New more)) refl (is_empty less) refl (is_empty more) refl real
    where
      headed-so : (differs : Bool) → differ (own_features groups part Old less) (own_features groups other New more) ≡ differs → differs ≡ true
          → both-empty Lines (OfChanged part other less more) ≡ false
      headed-so true e h =
          told-below Lines (OfChanged part other less more)
          (begun (changed_heading Lines part.name (own_features groups part Old less) (own_features groups other New more))
          (below_text Lines old new part other (own_features groups part Old less) (own_features groups other New more))
          (rw e (headed-told Lines (codes "changed") part.name)))
      headed-so false e h = absurd (cc)

      shared-so : is_empty (shared_lines Lines old.below new.below groups) ≡ false → both-empty Lines (OfChanged part other less more) ≡ false
      shared-so told = ap (λ b. b && is_empty (told_change Lines heads old new groups (OfChanged part other less more))) told

      by : (a : Bool) → is_empty (own_features groups part Old less) ≡ a → (b : Bool) → is_empty (own_features groups other New more) ≡ b
          → (c : Bool) → is_empty less ≡ c → (d : Bool) → is_empty more ≡ d → not (c && d) ≡ true
          → both-empty Lines (OfChanged part other less more) ≡ false
      by false a b e c f d g real = headed-so true (rw a refl) refl
      by true a false e c f d g real = headed-so true (rw (a, e) refl) refl
      by true a true e false f d g real = shared-so (all-shared Lines old.below new.below groups part Old less f a)
      by true a true e true f false g real = shared-so (all-shared Lines old.below new.below groups other New more g e)
      by true a true e true f true g real = absurd (cc)

  -- something is told of what changes of a part: of the part, or of what is shared
  real-told : (form : Form) (change : PartChange) → IsReal change → both-empty form change ≡ false
  real-told form (OfGone part) real = told-below form (OfGone part) (headed-told form (gone_word heads part.name) part.name)
  real-told form (OfNew part) real = told-below form (OfNew part) (headed-told form (codes "new") part.name)
  real-told Records (OfChanged part other less more) real =
      told-below Records (OfChanged part other less more)
      (begun (headed Records (codes "changed") part.name)
      (below_text Records old new part other (own_features groups part Old less) (own_features groups other New more))
      (headed-told Records (codes "changed") part.name))
  real-told Lines (OfChanged part other less more) real = changed-told part other less more real

abbrev pub AreReal : List PartChange → Type 0
AreReal [] = Unit
AreReal (change ∷ changes) = IsReal change × AreReal changes

-- nothing is told of two folders where nothing changes, and else something is
pub folded-told : (form : Form) (heads : List LeftOutHead) (old new : FolderParts) (changes : List PartChange) → AreReal changes
    → is_empty (folded_lines form heads old new changes) ≡ is_empty changes
folded-told form heads old new [] real = refl
folded-told form heads old new (change ∷ changes) real =
    let groups = groups_of (change ∷ changes) in
    let shared = shared_lines form old.below new.below groups in
    let told = told_change form heads old new groups change in
    let rest = flat_map (told_change form heads old new groups) changes in
    empty-both shared (told ++ rest) ∙ ap (λ b. is_empty shared && b) (empty-both told rest)
    ∙ three (is_empty shared) (is_empty told) (is_empty rest) (real-told heads old new groups form change real.0)
  where
    three : (a b c : Bool) → (a && b) ≡ false → (a && (b && c)) ≡ false
    three true b c h = ap (λ x. x && c) h
    three false b c h = refl
