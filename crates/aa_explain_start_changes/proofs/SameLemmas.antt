-- Places are the same exactly where the tests say so.
use Rattle.std.proofs.Common.{◌≡◌, ℕ, Bool, true, false, not, List, [], ◌∷◌, Option, None, Some, refl, sym, ◌∙◌, ap}
use Rattle.std.specs.Str.{bytes_eq}
use Rattle.std.proofs.lemmas.Bool.{and_from, and_parts, true≢false}
use Rattle.std.proofs.lemmas.Slice.Eq.{bytes_eq-Decides}
use Rattle.aa_profile_data.specs.FullNames.{FullName}
use Rattle.aa_profile_data.specs.SameRules.{same_flag}
use Rattle.aa_explain_start_changes.specs.Places.{Lead, LetThrough, Named, NamedBase, NoProfile, OnNamed, OnNone, Place, StackOf}
use Rattle.aa_explain_start_changes.specs.StartChanges.{LeadElsewhere, Leads}
use Rattle.aa_explain_start_changes.specs.code.Same.{same_base, same_child, same_lead, same_leads, same_members, same_name, same_pair, same_place, same_stand}
use Rattle.aa_explain_start_changes.specs.code.Telling.{differs}

text-is : (one other : List ℕ) → bytes_eq one other ≡ true → one ≡ other
text-is one other same = (bytes_eq-Decides one other).0 same

text-self : (text : List ℕ) → bytes_eq text text ≡ true
text-self text = (bytes_eq-Decides text text).1 refl

child-is : (one other : Option (List ℕ)) → same_child one other ≡ true → one ≡ other
child-is None None same = refl
child-is (Some name) (Some own) same = ap Some (text-is name own same)
child-is None (Some own) same = absurd cc
child-is (Some name) None same = absurd cc

child-self : (one : Option (List ℕ)) → same_child one one ≡ true
child-self None = refl
child-self (Some name) = text-self name

name-is : (one other : FullName) → same_name one other ≡ true → one ≡ other
name-is one other same =
    let both = and_parts (bytes_eq one.profile other.profile) (same_child one.child other.child) same in
    let profiles = text-is one.profile other.profile both.0 in
    let children = child-is one.child other.child both.1 in
    λ i. record { profile = profiles i; child = children i }

name-self : (one : FullName) → same_name one one ≡ true
name-self one = and_from (bytes_eq one.profile one.profile) (same_child one.child one.child) (text-self one.profile) (child-self one.child)

base-is : (one other : NamedBase) → same_base one other ≡ true → one ≡ other
base-is (OnNamed name) (OnNamed own) same = ap OnNamed (name-is name own same)
base-is OnNone OnNone same = refl
base-is (OnNamed name) OnNone same = absurd cc
base-is OnNone (OnNamed own) same = absurd cc

base-self : (one : NamedBase) → same_base one one ≡ true
base-self (OnNamed name) = name-self name
base-self OnNone = refl

stand-is : (one other : Option NamedBase) → same_stand one other ≡ true → one ≡ other
stand-is None None same = refl
stand-is (Some base) (Some own) same = ap Some (base-is base own same)
stand-is None (Some own) same = absurd cc
stand-is (Some base) None same = absurd cc

stand-self : (one : Option NamedBase) → same_stand one one ≡ true
stand-self None = refl
stand-self (Some base) = base-self base

pub members-is : (one other : List (List ℕ)) → same_members one other ≡ true → one ≡ other
members-is [] [] same = refl
members-is (name ∷ names) (own ∷ others) same =
    let both = and_parts (bytes_eq name own) (same_members names others) same in
    let first = text-is name own both.0 in
    let rest = members-is names others both.1 in
    λ i. first i ∷ rest i
members-is [] (own ∷ others) same = absurd cc
members-is (name ∷ names) [] same = absurd cc

pub members-self : (names : List (List ℕ)) → same_members names names ≡ true
members-self [] = refl
members-self (name ∷ names) = and_from (bytes_eq name name) (same_members names names) (text-self name) (members-self names)

place-is : (one other : Place) → same_place one other ≡ true → one ≡ other
place-is (Named name) (Named own) same = ap Named (name-is name own same)
place-is NoProfile NoProfile same = refl
place-is (StackOf base members) (StackOf own names) same =
    let both = and_parts (same_stand base own) (same_members members names) same in
    let bases = stand-is base own both.0 in
    let all = members-is members names both.1 in
    λ i. StackOf (bases i) (all i)
place-is LetThrough LetThrough same = refl
place-is _ _ same = absurd cc

place-self : (one : Place) → same_place one one ≡ true
place-self (Named name) = name-self name
place-self NoProfile = refl
place-self (StackOf base members) = and_from (same_stand base base) (same_members members members) (stand-self base) (members-self members)
place-self LetThrough = refl

flag-is : (one other : Bool) → same_flag one other ≡ true → one ≡ other
flag-is true true same = refl
flag-is false false same = refl
flag-is true false same = absurd cc
flag-is false true same = absurd cc

flag-self : (one : Bool) → same_flag one one ≡ true
flag-self true = refl
flag-self false = refl

lead-is : (one other : Lead) → same_lead one other ≡ true → one ≡ other
lead-is one other same =
    let both = and_parts (same_place one.place other.place) (same_flag one.scrub other.scrub) same in
    let places = place-is one.place other.place both.0 in
    let scrubs = flag-is one.scrub other.scrub both.1 in
    λ i. record { place = places i; scrub = scrubs i }

lead-self : (one : Lead) → same_lead one one ≡ true
lead-self one = and_from (same_place one.place one.place) (same_flag one.scrub one.scrub) (place-self one.place) (flag-self one.scrub)

leads-is : (one other : Option Lead) → same_leads one other ≡ true → one ≡ other
leads-is None None same = refl
leads-is (Some lead) (Some own) same = ap Some (lead-is lead own same)
leads-is None (Some own) same = absurd cc
leads-is (Some lead) None same = absurd cc

leads-self : (one : Option Lead) → same_leads one one ≡ true
leads-self None = refl
leads-self (Some lead) = lead-self lead

pub pair-is : (one other : Leads) → same_pair one other ≡ true → one ≡ other
pair-is one other same =
    let both = and_parts (same_leads one.before other.before) (same_leads one.after other.after) same in
    let befores = leads-is one.before other.before both.0 in
    let afters = leads-is one.after other.after both.1 in
    λ i. record { before = befores i; after = afters i }

pub pair-self : (one : Leads) → same_pair one one ≡ true
pair-self one =
    and_from (same_leads one.before one.before) (same_leads one.after one.after) (leads-self one.before) (leads-self one.after)

-- what differs leads elsewhere, and what doesn't leads to the same
pub elsewhere : (leads : Leads) → differs leads ≡ true → LeadElsewhere leads
elsewhere leads other same =
    let self : same_leads leads.before leads.after ≡ true = ap (same_leads leads.before) (sym same) ∙ leads-self leads.before in
    true≢false (sym other ∙ ap not self)

pub alike : (leads : Leads) → differs leads ≡ false → leads.before ≡ leads.after
alike leads same = by (same_leads leads.before leads.after) refl same
  where
    by : (b : Bool) → same_leads leads.before leads.after ≡ b → not b ≡ false → leads.before ≡ leads.after
    by true is same = leads-is leads.before leads.after is
    by false is same = absurd cc
