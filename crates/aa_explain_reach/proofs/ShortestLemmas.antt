-- Where no two profiles have one name, a place to go is known by how it is seen.
use Rattle.std.proofs.Common.{◌≡◌, ℕ, zero, suc, ◌≤◌, Bool, true, false, not, ◌&&◌, ◌||◌, ◌==◌, List, [], ◌∷◌, ◌++◌, length, take, drop, refl, sym, ◌∙◌, ap, subst, inl, inr, arith}
use Rattle.std.specs.Prelude.{Contains, None, Option, Some, codes, if◌then◌else◌, slice_get}
use Rattle.std.specs.List.{list_any, onto_first}
use Rattle.std.specs.Option.{option_map}
use Rattle.std.specs.Str.{bytes_eq}
use Rattle.std.proofs.lemmas.Bool.{and_from, and_parts, cases_lt, eq-eqb, not-true, true≢false}
use Rattle.std.proofs.lemmas.List.{take-append-drop}
use Rattle.std.proofs.lemmas.Option.{get_or_from_slice_get, slice_get_within}
use Rattle.std.proofs.lemmas.Slice.Eq.{bytes_eq-Decides}
use Rattle.aa_bytes.specs.Texts.{begins_with}
use Rattle.aa_decide.specs.Exec.{Base, Nowhere, Null, OnProfile, OnUnconfined, Stacked, Started, Unconfined, Under}
use Rattle.aa_decide.specs.ExecLaws.{HaveDistinctNames}
use Rattle.aa_decide.specs.SeenExec.{seen_base, seen_stacked, seen_to}
use Rattle.aa_decide_rules.specs.declared.exec_verdict.ExecTo.{ExecTo}
use Rattle.aa_decide_rules.specs.declared.exec_verdict.ExecTo.TheVariants as to
use Rattle.aa_decide_rules.specs.declared.exec_verdict.StackBase.{StackBase}
use Rattle.aa_decide_rules.specs.declared.exec_verdict.StackBase.TheVariants as base
use Rattle.aa_decide_ready.specs.Entries.{Loaded}
use Rattle.aa_decide_ready.specs.Named.{profiles_of}
use Rattle.aa_decide_ready.specs.Slots.{entry_at, filled}
use Rattle.aa_profile_data.specs.Stacks.{parts_behind, parts_of}
use Rattle.aa_profile_data.specs.Profile.{are_distinct, is_named}
use Rattle.aa_profile_data.proofs.PlaceLemmas.{Contains-to_get}
use Rattle.aa_explain_reach.specs.Places.{same_base, same_child, same_stand, same_to}
use Rattle.aa_explain_reach.specs.StartLaws.{StartsAreShortest}
use Rattle.aa_explain_reach.specs.Starts.{LeadApart}
use Rattle.aa_explain_reach.specs.declared.start.Start.{Start}

-- parts with `//&` between them, in one text
abbrev joined : List (List ℕ) → List ℕ
joined [] = []
joined (part ∷ []) = part
joined (part ∷ other ∷ more) = part ++ (codes "//&" ++ joined (other ∷ more))

-- a byte before the first part
joined-onto : (b : ℕ) (parts : List (List ℕ)) → joined (onto_first b parts) ≡ b ∷ joined parts
joined-onto b [] = refl
joined-onto b (part ∷ []) = refl
joined-onto b (part ∷ other ∷ more) = refl

-- there is a first part, whatever is skipped
some-part : (skipped : ℕ) (text : List ℕ) → (first : List ℕ) × (more : List (List ℕ)) × (parts_behind skipped text ≡ first ∷ more)
some-part zero [] = ([], [], refl)
some-part (suc skipped) [] = ([], [], refl)
some-part (suc skipped) (b ∷ bs) = some-part skipped bs
some-part zero (b ∷ bs) = by (begins_with (codes "//&") (b ∷ bs)) (some-part zero bs)
  where
    by : (cuts : Bool) → ((first : List ℕ) × (more : List (List ℕ)) × (parts_behind zero bs ≡ first ∷ more))
        → (first : List ℕ) × (more : List (List ℕ))
        × ((if cuts then [] ∷ parts_behind 2 bs else onto_first b (parts_behind zero bs)) ≡ first ∷ more)
    by true rest = ([], parts_behind 2 bs, refl)
    by false rest = (b ∷ rest.0, rest.1, ap (onto_first b) rest.2)

-- behind a cut, the parts in one text
joined-cut : (parts : List (List ℕ)) (first : List ℕ) (more : List (List ℕ)) → parts ≡ first ∷ more → joined ([] ∷ parts) ≡ codes "//&" ++ joined parts
joined-cut parts first more is = ap (λ ps. joined ([] ∷ ps)) is ∙ ap (λ ps. codes "//&" ++ joined ps) (sym is)

-- the parts of a text, in one text, are it
joined-parts : (skipped : ℕ) (text : List ℕ) → joined (parts_behind skipped text) ≡ drop skipped text
joined-parts zero [] = refl
joined-parts (suc skipped) [] = refl
joined-parts (suc skipped) (b ∷ bs) = joined-parts skipped bs
joined-parts zero (b ∷ bs) = by (begins_with (codes "//&") (b ∷ bs)) refl (joined-parts zero bs) (joined-parts 2 bs)
  where
    by : (cuts : Bool) → begins_with (codes "//&") (b ∷ bs) ≡ cuts → joined (parts_behind zero bs) ≡ bs → joined (parts_behind 2 bs) ≡ drop 2 bs
        → joined (if cuts then [] ∷ parts_behind 2 bs else onto_first b (parts_behind zero bs)) ≡ b ∷ bs
    by true is whole later =
        let some = some-part 2 bs in
        let front : take 3 (b ∷ bs) ≡ codes "//&" = (bytes_eq-Decides (take 3 (b ∷ bs)) (codes "//&")).0 is in
        joined-cut (parts_behind 2 bs) some.0 some.1 some.2 ∙ ap (λ l. codes "//&" ++ l) later
        ∙ ap (λ l. l ++ drop 3 (b ∷ bs)) (sym front) ∙ take-append-drop 3 (b ∷ bs)
    by false is whole later = joined-onto b (parts_behind zero bs) ∙ ap (λ l. b ∷ l) whole

-- so texts with the same parts are the same
same-text : (text other : List ℕ) → parts_of text ≡ parts_of other → text ≡ other
same-text text other same = sym (joined-parts zero text) ∙ ap joined same ∙ joined-parts zero other

-- the name of what a slot holds is among those of the entries
name-among : (slots : List (Option Loaded)) (place : ℕ) (entry : Loaded) (name : List ℕ) → slice_get slots place ≡ Some (Some entry)
    → bytes_eq entry.profile.name name ≡ true → list_any (is_named name) (profiles_of (filled slots)) ≡ true
name-among [] place entry name at same = absurd cc
name-among (None ∷ slots) zero entry name at same = absurd cc
name-among (None ∷ slots) (suc place) entry name at same = name-among slots place entry name at same
name-among (Some first ∷ slots) zero entry name at same =
    let is : first ≡ entry = cc in
    let here : bytes_eq first.profile.name name ≡ true = ap (λ (e : Loaded). bytes_eq e.profile.name name) is ∙ same in
    rw here refl
name-among (Some first ∷ slots) (suc place) entry name at same = by (bytes_eq first.profile.name name) (name-among slots place entry name at same)
  where
    by : (here : Bool) → list_any (is_named name) (profiles_of (filled slots)) ≡ true → (here || list_any (is_named name) (profiles_of (filled slots))) ≡ true
    by true rest = refl
    by false rest = rest

-- where the first of entries of different names is held again, there is none
held-twice : (first : Loaded) (slots : List (Option Loaded)) → HaveDistinctNames (first ∷ filled slots) → (place : ℕ) (entry : Loaded) → first ≡ entry
    → slice_get slots place ≡ Some (Some entry) → ⊥
held-twice first slots distinct place entry is at =
    let parts = and_parts (not (list_any (is_named first.profile.name) (profiles_of (filled slots)))) (are_distinct (profiles_of (filled slots))) distinct in
    let none = not-true (list_any (is_named first.profile.name) (profiles_of (filled slots))) parts.0 in
    let names : entry.profile.name ≡ first.profile.name = ap (λ (e : Loaded). e.profile.name) (sym is) in
    let some = name-among slots place entry first.profile.name at ((bytes_eq-Decides entry.profile.name first.profile.name).1 names) in
    true≢false (sym some ∙ none)

-- of entries of different names no two slots hold one
one-slot : (slots : List (Option Loaded)) → HaveDistinctNames (filled slots) → (one other : ℕ) (entry : Loaded) → slice_get slots one ≡ Some (Some entry)
    → slice_get slots other ≡ Some (Some entry) → one ≡ other
one-slot [] distinct one other entry at there = absurd cc
one-slot (None ∷ slots) distinct zero other entry at there = absurd cc
one-slot (None ∷ slots) distinct (suc one) zero entry at there = absurd cc
one-slot (None ∷ slots) distinct (suc one) (suc other) entry at there = ap suc (one-slot slots distinct one other entry at there)
one-slot (Some first ∷ slots) distinct zero zero entry at there = refl
one-slot (Some first ∷ slots) distinct zero (suc other) entry at there =
    let is : first ≡ entry = cc in
    absurd (held-twice first slots distinct other entry is there)
one-slot (Some first ∷ slots) distinct (suc one) zero entry at there =
    let is : first ≡ entry = cc in
    absurd (held-twice first slots distinct one entry is at)
one-slot (Some first ∷ slots) distinct (suc one) (suc other) entry at there =
    let parts = and_parts (not (list_any (is_named first.profile.name) (profiles_of (filled slots)))) (are_distinct (profiles_of (filled slots))) distinct in
    ap suc (one-slot slots parts.1 one other entry at there)

child-same : (one other : Option ℕ) → one ≡ other → same_child one other ≡ true
child-same None None same = refl
child-same (Some place) (Some other) same = let is : place ≡ other = cc in eq-eqb place other is
child-same None (Some other) same = absurd cc
child-same (Some place) None same = absurd cc

-- what a place is, as a number
abbrev pub kind_of : Started → ℕ
kind_of (Under entry child) = 0
kind_of Unconfined = 1
kind_of (Stacked base members) = 2
kind_of Null = 3
kind_of Nowhere = 4

abbrev pub code_kind : ExecTo → ℕ
code_kind (to.Profile slot child) = 0
code_kind to.Unconfined = 1
code_kind (to.Stack base members) = 2
code_kind to.Null = 3
code_kind to.Nowhere = 4

module _ (slots : List (Option Loaded)) where
  kind-is : (one other : Started) → Some one ≡ Some other → kind_of one ≡ kind_of other
  kind-is one other same = let is : one ≡ other = cc in ap kind_of is

  pub kind-seen : (code : ExecTo) (started : Started) → seen_to slots code ≡ Some started → code_kind code ≡ kind_of started
  kind-seen (to.Profile slot child) started seen = by (entry_at slots slot) seen
    where
      by : (found : Option Loaded) → option_map (λ entry. Under entry child) found ≡ Some started → 0 ≡ kind_of started
      by None seen = absurd cc
      by (Some entry) seen = kind-is (Under entry child) started seen
  kind-seen to.Unconfined started seen = kind-is Unconfined started seen
  kind-seen (to.Stack None members) started seen = kind-is (Stacked None (parts_of members.now)) started seen
  kind-seen (to.Stack (Some base) members) started seen = by (seen_base slots base) seen
    where
      by : (found : Option Base) → option_map (λ base. Stacked (Some base) (parts_of members.now)) found ≡ Some started → 2 ≡ kind_of started
      by None seen = absurd cc
      by (Some base) seen = kind-is (Stacked (Some base) (parts_of members.now)) started seen
  kind-seen to.Null started seen = kind-is Null started seen
  kind-seen to.Nowhere started seen = kind-is Nowhere started seen

  -- a slot is filled
  pub held : (slot : ℕ) (entry : Loaded) → entry_at slots slot ≡ Some entry → slice_get slots slot ≡ Some (Some entry)
  held slot entry at = by (slice_get slots slot) at
    where
      by : (found : Option (Option Loaded)) → (elim found as (λ _. Option Loaded) [ None ↦ None | Some content ↦ content ]) ≡ Some entry → found ≡ Some (Some entry)
      by None at = absurd cc
      by (Some content) at = ap Some at

  module _ (distinct : HaveDistinctNames (filled slots)) where
    -- slots that hold one entry are one
    profile-same : (slot other : ℕ) (child place : Option ℕ) (entry own : Loaded) → entry_at slots slot ≡ Some entry → entry_at slots other ≡ Some own
        → entry ≡ own → child ≡ place → (slot == other && same_child child place) ≡ true
    profile-same slot other child place entry own at there same child_same =
        and_from (slot == other) (same_child child place)
        (eq-eqb slot other (one-slot slots distinct slot other entry (held slot entry at) (held other own there ∙ ap (λ e. Some (Some e)) (sym same))))
        (child-same child place child_same)

    -- stacks are on the same that are seen so
    base-same : (one other : StackBase) (seen : Base) → seen_base slots one ≡ Some seen → seen_base slots other ≡ Some seen → same_base one other ≡ true
    base-same (base.Profile slot child) (base.Profile other place) seen at there = by (entry_at slots slot) (entry_at slots other) refl refl at there
      where
        by : (found own : Option Loaded) → entry_at slots slot ≡ found → entry_at slots other ≡ own
            → option_map (λ entry. OnProfile entry child) found ≡ Some seen → option_map (λ entry. OnProfile entry place) own ≡ Some seen
            → (slot == other && same_child child place) ≡ true
        by None own is are at there = absurd cc
        by (Some entry) None is are at there = absurd cc
        by (Some entry) (Some own) is are at there =
            let same : OnProfile entry child ≡ OnProfile own place = cc in
            let entries : entry ≡ own = cc in
            let children : child ≡ place = cc in
            profile-same slot other child place entry own is are entries children
    base-same base.Unconfined base.Unconfined seen at there = refl
    base-same (base.Profile slot child) base.Unconfined seen at there = by (entry_at slots slot) at there
      where
        by : (found : Option Loaded) → option_map (λ entry. OnProfile entry child) found ≡ Some seen → Some OnUnconfined ≡ Some seen → false ≡ true
        by None at there = absurd cc
        by (Some entry) at there = let no : OnProfile entry child ≡ OnUnconfined = cc in absurd cc
    base-same base.Unconfined (base.Profile slot child) seen at there = by (entry_at slots slot) at there
      where
        by : (found : Option Loaded) → Some OnUnconfined ≡ Some seen → option_map (λ entry. OnProfile entry child) found ≡ Some seen → false ≡ true
        by None at there = absurd cc
        by (Some entry) at there = let no : OnProfile entry child ≡ OnUnconfined = cc in absurd cc

    stand-same : (one other : Option StackBase) (members names : List (List ℕ)) (started : Started) → seen_stacked slots members one ≡ Some started
        → seen_stacked slots names other ≡ Some started → (same_stand one other ≡ true) × (members ≡ names)
    stand-same None None members names started at there =
        let same : Stacked None members ≡ Stacked None names = cc in
        let are : members ≡ names = cc in
        (refl, are)
    stand-same (Some one) (Some other) members names started at there = by (seen_base slots one) (seen_base slots other) refl refl at there
      where
        by : (found own : Option Base) → seen_base slots one ≡ found → seen_base slots other ≡ own
            → option_map (λ base. Stacked (Some base) members) found ≡ Some started → option_map (λ base. Stacked (Some base) names) own ≡ Some started
            → (same_base one other ≡ true) × (members ≡ names)
        by None own is are at there = absurd cc
        by (Some base) None is are at there = absurd cc
        by (Some base) (Some own) is are at there =
            let same : Stacked (Some base) members ≡ Stacked (Some own) names = cc in
            let bases : base ≡ own = cc in
            let lists : members ≡ names = cc in
            (base-same one other base is (are ∙ ap Some (sym bases)), lists)
    stand-same None (Some other) members names started at there = by (seen_base slots other) at there
      where
        by : (found : Option Base) → Some (Stacked None members) ≡ Some started → option_map (λ base. Stacked (Some base) names) found ≡ Some started
            → (false ≡ true) × (members ≡ names)
        by None at there = absurd cc
        by (Some base) at there = let no : Stacked None members ≡ Stacked (Some base) names = cc in absurd cc
    stand-same (Some one) None members names started at there = by (seen_base slots one) at there
      where
        by : (found : Option Base) → option_map (λ base. Stacked (Some base) members) found ≡ Some started → Some (Stacked None names) ≡ Some started
            → (false ≡ true) × (members ≡ names)
        by None at there = absurd cc
        by (Some base) at there = let no : Stacked (Some base) members ≡ Stacked None names = cc in absurd cc

    -- places that are seen as one are the same
    to-same : (one other : ExecTo) (started : Started) → seen_to slots one ≡ Some started → seen_to slots other ≡ Some started → same_to one other ≡ true
    to-same (to.Profile slot child) (to.Profile other place) started at there = by (entry_at slots slot) (entry_at slots other) refl refl at there
      where
        by : (found own : Option Loaded) → entry_at slots slot ≡ found → entry_at slots other ≡ own
            → option_map (λ entry. Under entry child) found ≡ Some started → option_map (λ entry. Under entry place) own ≡ Some started
            → (slot == other && same_child child place) ≡ true
        by None own is are at there = absurd cc
        by (Some entry) None is are at there = absurd cc
        by (Some entry) (Some own) is are at there =
            let same : Under entry child ≡ Under own place = cc in
            let entries : entry ≡ own = cc in
            let children : child ≡ place = cc in
            profile-same slot other child place entry own is are entries children
    to-same to.Unconfined to.Unconfined started at there = refl
    to-same (to.Stack base members) (to.Stack other names) started at there =
        let same = stand-same base other (parts_of members.now) (parts_of names.now) started at there in
        and_from (same_stand base other) (bytes_eq members.now names.now) same.0
        ((bytes_eq-Decides members.now names.now).1 (same-text members.now names.now same.1))
    to-same to.Null to.Null started at there = refl
    to-same to.Nowhere to.Nowhere started at there = refl
    to-same one other started at there =
        let differ : code_kind one ≡ code_kind other = kind-seen one started at ∙ sym (kind-seen other started there) in
        absurd (omega (arith, differ))

-- of starts that go to different places two that go to the same are one
one-start : (starts : List Start) → LeadApart starts → (one other : Start) → Contains starts one → Contains starts other
    → same_to one.to other.to ≡ true → same_to other.to one.to ≡ true → one ≡ other
one-start starts apart one other here there same turned =
    let at = Contains-to_get starts one here in
    let own = Contains-to_get starts other there in
    elim (cases_lt at.0 own.0) [
      | inl before ↦
          absurd (true≢false (sym same ∙ (λ i. same_to (sym (get_or_from_slice_get starts at.0 one one at.1) i).to (sym (get_or_from_slice_get starts own.0 other one own.1) i).to)
          ∙ apart at.0 own.0 one before (slice_get_within starts own.0 other own.1)))
      | inr not_before ↦ elim (cases_lt own.0 at.0) [
        | inl before ↦
            absurd (true≢false (sym turned ∙ (λ i. same_to (sym (get_or_from_slice_get starts own.0 other one own.1) i).to (sym (get_or_from_slice_get starts at.0 one one at.1) i).to)
            ∙ apart own.0 at.0 one before (slice_get_within starts at.0 one at.1)))
        | inr not_behind ↦
            let place : at.0 ≡ own.0 = omega (arith, not_before, not_behind) in
            let equal : Some one ≡ Some other = sym at.1 ∙ ap (slice_get starts) place ∙ own.1 in
            cc
      ]
    ]

pub starts-shortest : StartsAreShortest
starts-shortest slots asker starts distinct are start among to seen path owned leads =
    let has = are.each_place path owned to leads in
    let same = one-start starts are.apart start has.start among has.among
    (to-same slots distinct start.to has.start.to to seen has.seen) (to-same slots distinct has.start.to start.to to has.seen seen) in
    subst (λ (s : Start). length s.path.items ≤ length path) (sym same) has.no_longer
