-- Profiles, children and hats of different names are found by theirs.
use Rattle.std.proofs.Common.{◌≡◌, ℕ, zero, suc, ◌+◌, Bool, true, false, ◌&&◌, ◌||◌, not, cond, List, [], ◌∷◌, get_or, Option, None, Some, refl}
use Rattle.std.proofs.Common.{sym, ap, subst, ◌∙◌, arith}
use Rattle.std.specs.Prelude.{if◌then◌else◌, option_and_then, slice_get}
use Rattle.std.specs.Option.{option_map}
use Rattle.std.specs.List.{Contains, list_any, position_from}
use Rattle.std.specs.Str.{bytes_eq}
use Rattle.std.proofs.lemmas.Bool.{and_parts, not-true}
use Rattle.std.proofs.lemmas.Iterator.Adapters.{position_from-zero}
use Rattle.std.proofs.lemmas.List.Quantifiers.{position-Some}
use Rattle.std.proofs.lemmas.Option.{slice_get-get_or}
use Rattle.std.proofs.lemmas.Slice.Eq.{bytes_eq-Decides}
use Rattle.aa_decide.specs.Exec.{Asker, entry_asker, named_asker, named_in_force}
use Rattle.aa_decide.specs.ExecLaws.{HaveDistinctNames}
use Rattle.aa_decide_ready.specs.Entries.{Loaded, is_in_force}
use Rattle.aa_decide_ready.specs.Named.{entry_named, profiles_of}
use Rattle.aa_explain.specs.NamedAskers.{IsChildNamed, IsNamed}
use Rattle.aa_profile_data.specs.FullNames.{FullName}
use Rattle.aa_profile_data.specs.Profile.{are_distinct, are_distinct_children, child_place, is_child_named, is_named}
use Rattle.aa_profile_data.specs.declared.profile.Child.{Child}

-- names that are the same
pub name-is : (one other : List ℕ) → bytes_eq one other ≡ true → one ≡ other
name-is one other = (bytes_eq-Decides one other).0

pub name-same : (one other : List ℕ) → one ≡ other → bytes_eq one other ≡ true
name-same one other = (bytes_eq-Decides one other).1

-- the entry of a name is there, and has it
pub named-is : (name : List ℕ) (entries : List Loaded) (entry : Loaded) → entry_named name entries ≡ Some entry
    → Contains entries entry × (entry.profile.name ≡ name)
named-is name [] entry is = absurd (cc)
named-is name (first ∷ entries) entry is = by (bytes_eq first.profile.name name) refl is (named-is name entries entry)
  where
    by : (same : Bool) → bytes_eq first.profile.name name ≡ same → cond same (Some first) (entry_named name entries) ≡ Some entry
        → (entry_named name entries ≡ Some entry → Contains entries entry × (entry.profile.name ≡ name))
        → Contains (first ∷ entries) entry × (entry.profile.name ≡ name)
    by true e is rest =
        let own : first ≡ entry = cc in
        ((0, omega arith, own), ap (λ (e : Loaded). e.profile.name) (sym own) ∙ name-is first.profile.name name e)
    by false e is rest =
        let found = rest is in
        let (k, within, there) = found.0 in
        ((suc k, omega (arith, within), there), found.1)

-- where none has a name, no entry of it is found
none-named : (name : List ℕ) (entries : List Loaded) → list_any (is_named name) (profiles_of entries) ≡ false → entry_named name entries ≡ None
none-named name [] none = refl
none-named name (first ∷ entries) none = by (bytes_eq first.profile.name name) none (none-named name entries)
  where
    by : (same : Bool) → (same || list_any (is_named name) (profiles_of entries)) ≡ false
        → (list_any (is_named name) (profiles_of entries) ≡ false → entry_named name entries ≡ None)
        → cond same (Some first) (entry_named name entries) ≡ None
    by true none rest = absurd (cc)
    by false none rest = rest none

-- no entry behind the first of distinct ones has its name
none-behind : (first : Loaded) (entries : List Loaded) → HaveDistinctNames (first ∷ entries)
    → (entry_named first.profile.name entries ≡ None) × HaveDistinctNames entries
none-behind first entries apart =
    let parts = and_parts (not (list_any (is_named first.profile.name) (profiles_of entries))) (are_distinct (profiles_of entries)) apart in
    (none-named first.profile.name entries (not-true (list_any (is_named first.profile.name) (profiles_of entries)) parts.0), parts.1)

-- an entry is found by its name
pub named-there : (entries : List Loaded) (entry : Loaded) → HaveDistinctNames entries → Contains entries entry
    → entry_named entry.profile.name entries ≡ Some entry
named-there [] entry apart c = absurd (omega (arith, c.1))
named-there (first ∷ entries) entry apart (zero, within, is) =
    let same : bytes_eq first.profile.name entry.profile.name ≡ true = name-same first.profile.name entry.profile.name (ap (λ (e : Loaded). e.profile.name) is) in
    rw same (ap (λ (e : Loaded). Some e) is)
named-there (first ∷ entries) entry apart (suc k, within, is) =
    by (bytes_eq first.profile.name entry.profile.name) refl (none-behind first entries apart).0
    (named-there entries entry (none-behind first entries apart).1 (k, omega (arith, within), is))
  where
    by : (same : Bool) → bytes_eq first.profile.name entry.profile.name ≡ same → entry_named first.profile.name entries ≡ None
        → entry_named entry.profile.name entries ≡ Some entry
        → cond same (Some first) (entry_named entry.profile.name entries) ≡ Some entry
    by true e none found =
        let names : first.profile.name ≡ entry.profile.name = name-is first.profile.name entry.profile.name e in
        let other : None ≡ Some entry = sym none ∙ ap (λ name. entry_named name entries) names ∙ found in
        absurd (cc)
    by false e none found = found

-- an entry, if it is in force
abbrev pub if_in_force : Option Loaded → Option Loaded
if_in_force None = None
if_in_force (Some entry) = if is_in_force entry.state then Some entry else None

-- the profile in force of a name is the one of the name, if it is in force
pub force-named : (name : List ℕ) (entries : List Loaded) → HaveDistinctNames entries
    → named_in_force name entries ≡ if_in_force (entry_named name entries)
force-named name [] apart = refl
force-named name (first ∷ entries) apart =
    by (is_in_force first.state) refl (bytes_eq first.profile.name name) refl
    (force-named name entries (none-behind first entries apart).1) (none-behind first entries apart).0
  where
    own : (force : Bool) → is_in_force first.state ≡ force → if_in_force (Some first) ≡ (if force then Some first else None)
    own force e = ap (λ force. if force then Some first else None) e

    by : (force : Bool) → is_in_force first.state ≡ force → (same : Bool) → bytes_eq first.profile.name name ≡ same
        → named_in_force name entries ≡ if_in_force (entry_named name entries)
        → entry_named first.profile.name entries ≡ None
        → cond (force && same) (Some first) (named_in_force name entries) ≡ if_in_force (cond same (Some first) (entry_named name entries))
    by true f true e rest none = sym (own true f)
    by false f true e rest none =
        let other : entry_named name entries ≡ None = ap (λ name. entry_named name entries) (sym (name-is first.profile.name name e)) ∙ none in
        rest ∙ ap if_in_force other ∙ sym (own false f)
    by true f false e rest none = rest
    by false f false e rest none = rest

-- the child or hat of a name stands at its place, and has it
pub placed-is : (name : List ℕ) (children : List Child) (place : ℕ) → child_place name children ≡ Some place
    → (child : Child) × (slice_get children place ≡ Some child) × (child.name ≡ name)
placed-is name [] place is = absurd (cc)
placed-is name (first ∷ children) place is =
    let (within, named, before) = position-Some (is_child_named name) (first ∷ children) place first is in (
      get_or (first ∷ children) place first,
      slice_get-get_or (first ∷ children) place first within,
      name-is (get_or (first ∷ children) place first).name name named,
    )

-- a child or a hat that has a name, where some has it
child-there : (name : List ℕ) (children : List Child) (place : ℕ) (child : Child) → slice_get children place ≡ Some child
    → bytes_eq child.name name ≡ true
    → list_any (is_child_named name) children ≡ true
child-there name [] place child at same = absurd (cc)
child-there name (first ∷ children) zero child at same =
    let is : first ≡ child = cc in
    let here : bytes_eq first.name name ≡ true = ap (λ (c : Child). bytes_eq c.name name) is ∙ same in
    rw here refl
child-there name (first ∷ children) (suc place) child at same = by (bytes_eq first.name name) (child-there name children place child at same)
  where
    by : (here : Bool) → list_any (is_child_named name) children ≡ true → (here || list_any (is_child_named name) children) ≡ true
    by true rest = refl
    by false rest = rest

-- the name of one of distinct children and hats is found at its place
place-from : (children : List Child) (start place : ℕ) (child : Child) → are_distinct_children children ≡ true → slice_get children place ≡ Some child
    → position_from (is_child_named child.name) start children ≡ Some (start + place)
place-from [] start place child apart at = absurd (cc)
place-from (first ∷ children) start zero child apart at =
    let is : first ≡ child = cc in
    let same : bytes_eq first.name child.name ≡ true = name-same first.name child.name (ap (λ (c : Child). c.name) is) in
    rw same (ap (λ (n : ℕ). Some n) here)
  where
    here : start ≡ start + 0
    here = omega arith
place-from (first ∷ children) start (suc place) child apart at =
    let parts = and_parts (not (list_any (is_child_named first.name) children)) (are_distinct_children children) apart in
    by (bytes_eq first.name child.name) refl (not-true (list_any (is_child_named first.name) children) parts.0) (place-from children (start + 1) place child parts.1 at)
  where
    next : start + 1 + place ≡ start + suc place
    next = omega arith

    by : (same : Bool) → bytes_eq first.name child.name ≡ same → list_any (is_child_named first.name) children ≡ false
        → position_from (is_child_named child.name) (start + 1) children ≡ Some (start + 1 + place)
        → cond same (Some start) (position_from (is_child_named child.name) (start + 1) children) ≡ Some (start + suc place)
    by true e none rest =
        let names : child.name ≡ first.name = sym (name-is first.name child.name e) in
        let some = child-there first.name children place child at (name-same child.name first.name names) in
        absurd (cc)
    by false e none rest = rest ∙ ap (λ (n : ℕ). Some n) next

pub placed-there : (children : List Child) (place : ℕ) (child : Child) → are_distinct_children children ≡ true → slice_get children place ≡ Some child
    → child_place child.name children ≡ Some place
placed-there children place child apart at =
    position_from-zero (is_child_named child.name) children ∙ place-from children 0 place child apart at ∙ ap (λ (n : ℕ). Some n) none
  where
    none : 0 + place ≡ place
    none = omega arith

-- who asks by a loaded profile is of that
pub asker-entry : (child : Option (List ℕ)) (entry : Loaded) (who : Asker) → entry_asker child entry ≡ Some who → entry ≡ who.entry
asker-entry None entry who is = ap (λ (o : Option Asker). elim o [ None ↦ entry | Some a ↦ a.entry ]) is
asker-entry (Some name) entry who is = by (child_place name entry.profile.children) is
  where
    by : (place : Option ℕ) → option_map (λ place. record { entry = entry; child = Some place }) place ≡ Some who → entry ≡ who.entry
    by None is = absurd (cc)
    by (Some place) is = ap (λ (o : Option Asker). elim o [ None ↦ entry | Some a ↦ a.entry ]) is

-- who has a full name is of the entry that has its profile's
pub asker-named : (name : FullName) (entries : List Loaded) (who : Asker) → named_asker entries name ≡ Some who
    → (entry_named name.profile entries ≡ Some who.entry) × (entry_asker name.child who.entry ≡ Some who)
asker-named name entries who is = by (entry_named name.profile entries) refl is
  where
    by : (found : Option Loaded) → entry_named name.profile entries ≡ found → option_and_then (entry_asker name.child) found ≡ Some who
        → (entry_named name.profile entries ≡ Some who.entry) × (entry_asker name.child who.entry ≡ Some who)
    by None e is = absurd (cc)
    by (Some entry) e is =
        let own : entry ≡ who.entry = asker-entry name.child entry who is in
        (e ∙ ap (λ (e : Loaded). Some e) own, ap (entry_asker name.child) (sym own) ∙ is)

-- an entry that a profile's name finds asks by its full name
pub profile-named : (name : List ℕ) (entries : List Loaded) (entry : Loaded) → entry_named name entries ≡ Some entry
    → named_asker entries (record { profile = name; child = None }) ≡ Some (record { entry = entry; child = None })
profile-named name entries entry is = ap (option_and_then (entry_asker None)) is

-- and by that of a child or a hat, whichever of the entry has its name
pub child-named : (name : List ℕ) (entries : List Loaded) (entry : Loaded) (child : List ℕ) → entry_named name entries ≡ Some entry
    → named_asker entries (record { profile = name; child = Some child }) ≡ entry_asker (Some child) entry
child-named name entries entry child is = ap (option_and_then (entry_asker (Some child))) is

-- who has a full name is of a profile of its first part, and is the child or hat of its second
pub named-asker-is : (entries : List Loaded) (name : FullName) (who : Asker) → named_asker entries name ≡ Some who → IsNamed entries name who
named-asker-is entries name who is =
    let (found, own) = asker-named name entries who is in
    let (there, named) = named-is name.profile entries who.entry found in
    record { there = there; profile = named; child = by name.child own }
  where
    same : (asker : Asker) → Some asker ≡ Some who → (child : Option (List ℕ))
        → IsChildNamed who.entry.profile asker.child child → IsChildNamed who.entry.profile who.child child
    same asker e child named =
        subst (λ place. IsChildNamed who.entry.profile place child) (ap (λ (o : Option Asker). elim o [ None ↦ asker.child | Some a ↦ a.child ]) e) named

    at : (child : List ℕ) (place : Option ℕ) → child_place child who.entry.profile.children ≡ place
        → option_map (λ place. record { entry = who.entry; child = Some place }) place ≡ Some who → IsChildNamed who.entry.profile who.child (Some child)
    at child None e is = absurd (cc)
    at child (Some place) e is =
        same (record { entry = who.entry; child = Some place }) is (Some child) (placed-is child who.entry.profile.children place e)

    by : (child : Option (List ℕ)) → entry_asker child who.entry ≡ Some who → IsChildNamed who.entry.profile who.child child
    by None is = same (record { entry = who.entry; child = None }) is None tt
    by (Some child) is = at child (child_place child who.entry.profile.children) refl is
