-- What changes is counted.
use Rattle.std.proofs.Common.{◌≡◌, ℕ, ◌+◌, ◌==◌, Bool, true, false, not, cond, List, [], ◌∷◌, ◌++◌, codes, filter, flat_map, length, length-append, Option, None, Some, is_none, refl, sym, ap, ◌∙◌, arith}
use Rattle.std.proofs.Math.Dec.{eqb-suc-zero}
use Rattle.aa_bytes.specs.Texts.{is_empty}
use Rattle.aa_explain_diff.specs.Features.{Feature}
use Rattle.aatry_changes.proofs.ToldLemmas.{AreReal, begun, folded-told, headed-told, told-some}
use Rattle.aatry_changes.specs.Changes.{change_lines, gone_word}
use Rattle.aatry_changes.specs.PartChanges.{OfChanged, OfGone, OfNew, PartChange, alone, changed_by, changed_count, differ, is_gone_or_changed}
use Rattle.aatry_changes.specs.PartChanges.{is_gone_or_changed_by, is_new, new_change, new_change_by, old_change, old_change_by, part_changes}
use Rattle.aatry_changes.specs.Stat.{stat_change, stat_lines}
use Rattle.aatry_policy.specs.FolderParts.{FolderParts}
use Rattle.aatry_policy.specs.Parts.{Part, part_of}
use Rattle.aatry_report.specs.declared.form.Form.{Form}
use Rattle.aatry_uncertain.specs.LeftOutHeads.{LeftOutHead}

-- one, or none
abbrev one-if : Bool → ℕ
one-if counted = cond counted 1 0

-- so much changes of a part
changed-counted : (part other : Part) (less more : List Feature) → length (changed_by part other less more) ≡ one-if (differ less more)
changed-counted part other less more = by (differ less more)
  where
    by : (differs : Bool) → length (cond differs (OfChanged part other less more ∷ []) []) ≡ one-if differs
    by true = refl
    by false = refl

old-counted : (new : FolderParts) (part : Part) → length (old_change new part) ≡ one-if (is_gone_or_changed new part)
old-counted new part = by (part_of new.parts part.name)
  where
    by : (found : Option Part) → length (old_change_by part found) ≡ one-if (is_gone_or_changed_by part found)
    by None = refl
    by (Some other) = changed-counted part other (alone part other) (alone other part)

new-counted : (old : FolderParts) (part : Part) → length (new_change old part) ≡ one-if (is_new old part)
new-counted old part = by (part_of old.parts part.name)
  where
    by : (found : Option Part) → length (new_change_by part found) ≡ one-if (is_none found)
    by None = refl
    by (Some other) = refl

-- what changes of some parts is as much as they are that are counted
all-counted : (changes : Part → List PartChange) (counts : Part → Bool) → ((part : Part) → length (changes part) ≡ one-if (counts part))
    → (parts : List Part) → length (flat_map changes parts) ≡ length (filter counts parts)
all-counted changes counts each [] = refl
all-counted changes counts each (part ∷ parts) =
    length-append (changes part) (flat_map changes parts)
    ∙ (λ i. each part i + all-counted changes counts each parts i) ∙ by (counts part)
  where
    by : (counted : Bool) → one-if counted + length (filter counts parts) ≡ length (cond counted (part ∷ filter counts parts) (filter counts parts))
    by true = omega arith
    by false = omega arith

-- what changes of two folders is counted
pub changes-counted : (old new : FolderParts) → length (part_changes old new) ≡ changed_count old new
changes-counted old new =
    length-append (flat_map (old_change new) old.parts) (flat_map (new_change old) new.parts)
    ∙ (λ i. all-counted (old_change new) (is_gone_or_changed new) (old-counted new) old.parts i
    + all-counted (new_change old) (is_new old) (new-counted old) new.parts i)

-- what is as long as something counts is empty where that isn't
none-of : (changes : List PartChange) (counted : Bool) → length changes ≡ one-if counted → is_empty changes ≡ not counted
none-of [] true h = absurd (omega (arith, h))
none-of [] false h = refl
none-of (change ∷ changes) true h = refl
none-of (change ∷ changes) false h = absurd (omega (arith, h))

-- something changes of a part of the old folder where it is gone or changed
pub old-told : (new : FolderParts) (part : Part) → is_empty (old_change new part) ≡ not (is_gone_or_changed new part)
old-told new part = none-of (old_change new part) (is_gone_or_changed new part) (old-counted new part)

-- and of one of the new folder where it is new
pub new-told : (old : FolderParts) (part : Part) → is_empty (new_change old part) ≡ not (is_new old part)
new-told old part = none-of (new_change old part) (is_new old part) (new-counted old part)

-- what changes of a part is something
changed-real : (part other : Part) (less more : List Feature) → AreReal (changed_by part other less more)
changed-real part other less more = by (differ less more) refl
  where
    by : (differs : Bool) → differ less more ≡ differs → AreReal (cond differs (OfChanged part other less more ∷ []) [])
    by true e = (e, tt)
    by false e = tt

old-real : (new : FolderParts) (part : Part) → AreReal (old_change new part)
old-real new part = by (part_of new.parts part.name)
  where
    by : (found : Option Part) → AreReal (old_change_by part found)
    by None = (tt, tt)
    by (Some other) = changed-real part other (alone part other) (alone other part)

new-real : (old : FolderParts) (part : Part) → AreReal (new_change old part)
new-real old part = by (part_of old.parts part.name)
  where
    by : (found : Option Part) → AreReal (new_change_by part found)
    by None = (tt, tt)
    by (Some other) = tt

real-both : (changes others : List PartChange) → AreReal changes → AreReal others → AreReal (changes ++ others)
real-both [] others one two = two
real-both (change ∷ changes) others one two = (one.0, real-both changes others one.1 two)

all-real : (changes : Part → List PartChange) → ((part : Part) → AreReal (changes part)) → (parts : List Part) → AreReal (flat_map changes parts)
all-real changes each [] = tt
all-real changes each (part ∷ parts) = real-both (changes part) (flat_map changes parts) (each part) (all-real changes each parts)

pub are-real : (old new : FolderParts) → AreReal (part_changes old new)
are-real old new =
    real-both (flat_map (old_change new) old.parts) (flat_map (new_change old) new.parts)
    (all-real (old_change new) (old-real new) old.parts) (all-real (new_change old) (new-real old) new.parts)

-- what is told of two folders is nothing where nothing changes
pub changes-told : (form : Form) (heads : List LeftOutHead) (old new : FolderParts) → is_empty (change_lines form heads old new) ≡ is_empty (part_changes old new)
changes-told form heads old new = folded-told form heads old new (part_changes old new) (are-real old new)

none-long : (changes : List PartChange) → is_empty changes ≡ (length changes == 0)
none-long [] = refl
none-long (change ∷ changes) = sym (eqb-suc-zero (length changes))

-- something is told of two folders where some part is counted
pub some-told : (form : Form) (heads : List LeftOutHead) (old new : FolderParts) → is_empty (change_lines form heads old new) ≡ (changed_count old new == 0)
some-told form heads old new =
    changes-told form heads old new ∙ none-long (part_changes old new) ∙ ap (λ n. n == 0) (changes-counted old new)

-- how much changes of a part is told
stat-told : (form : Form) (heads : List LeftOutHead) (change : PartChange) → is_empty (stat_change form heads change) ≡ false
stat-told form heads (OfGone part) = headed-told form (gone_word heads part.name) part.name
stat-told form heads (OfNew part) = headed-told form (codes "new") part.name
stat-told form heads (OfChanged part other less more) = told-some form (codes "changed") _

stats-told : (form : Form) (heads : List LeftOutHead) (changes : List PartChange) → is_empty (flat_map (stat_change form heads) changes) ≡ is_empty changes
stats-told form heads [] = refl
stats-told form heads (change ∷ changes) = begun (stat_change form heads change) (flat_map (stat_change form heads) changes) (stat-told form heads change)

-- how much differs of two folders is told where some part is counted
pub some-stat : (form : Form) (heads : List LeftOutHead) (old new : FolderParts) → is_empty (stat_lines form heads old new) ≡ (changed_count old new == 0)
some-stat form heads old new =
    stats-told form heads (part_changes old new) ∙ none-long (part_changes old new) ∙ ap (λ n. n == 0) (changes-counted old new)
