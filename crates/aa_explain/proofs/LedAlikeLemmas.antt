-- Policy sets that are alike lead programs under who has one full name.
use Rattle.std.proofs.Common.{◌≡◌, ℕ, Bool, true, false, List, [], ◌∷◌, Option, None, Some, refl, sym, ap, subst, ◌∙◌}
use Rattle.std.specs.Prelude.{◌&&◌, if◌then◌else◌, is_some, option_and_then}
use Rattle.std.specs.Option.{option_map}
use Rattle.aa_decide.specs.Attachment.{attached, attached_child}
use Rattle.aa_decide.specs.Exec.{Asker, Base, OnProfile, Stacked, Started, Under, are_in_force, base_of, by_full_name, entry_asker, fallback_base, led, led_by}
use Rattle.aa_decide.specs.Exec.{led_by_word, named_stack, place_of_child, stacked_on, to_child, to_profile, to_stack, under}
use Rattle.aa_decide_ready.specs.Entries.{Loaded, is_in_force}
use Rattle.aa_decide_ready.specs.Named.{entry_named}
use Rattle.aa_explain.proofs.AttachedAlikeLemmas.{FitLaw, RankLaw, attached-twin, child-twin}
use Rattle.aa_explain.proofs.NamedLemmas.{asker-named, force-named, if_in_force, named-is}
use Rattle.aa_explain.proofs.TwinLemmas.{child_at, children-named, entries-named, itself, policies-back, same-force, twin-child, twin-entry}
use Rattle.aa_explain.specs.AlikePolicies.{AreAlikePolicies, AreThereAlike, HaveOneName, RunAlike, StandAlike}
use Rattle.aa_profile_data.specs.ExecWords.{row}
use Rattle.aa_profile_data.specs.FullNames.{full_name}
use Rattle.aa_profile_data.specs.Stacks.{Stack}
use Rattle.aa_profile_data.specs.declared.exec_word.Destination.{Destination}
use Rattle.aa_profile_data.specs.declared.exec_word.Destination.TheVariants as to
use Rattle.aa_profile_data.specs.declared.exec_word.ExecWord.{ExecWord}
use Rattle.aa_profile_data.specs.Profile.{are_distinct_children, child_place}
use Rattle.aa_profile_data.specs.declared.profile.Transition.{Transition}

-- both lead somewhere, and there programs run under who has one full name, or neither leads anywhere
abbrev pub LeadAlike : List Loaded → List Loaded → Option Started → Option Started → Type 0
LeadAlike entries others None None = Unit {0}
LeadAlike entries others (Some one) (Some other) = RunAlike entries others one other
LeadAlike entries others None (Some other) = ⊥
LeadAlike entries others (Some one) None = ⊥

-- a profile that the path is attached to
abbrev pub under_it : Loaded → Started
under_it entry = Under entry None

module _ (fit : FitLaw) (rank : RankLaw) where
  module _ (path : List ℕ) (entries others : List Loaded) (alike : AreAlikePolicies entries others) where
    pub attached-alike : LeadAlike entries others (option_map under_it (attached path entries)) (option_map under_it (attached path others))
    attached-alike = by (attached path entries) refl (attached path others) refl
      where
        by : (one : Option Loaded) → attached path entries ≡ one → (other : Option Loaded) → attached path others ≡ other
            → LeadAlike entries others (option_map under_it one) (option_map under_it other)
        by None e None f = tt
        by None e (Some other) f =
            let (one, is, named, found) = attached-twin fit path others entries (policies-back entries others alike) other f in
            let none : None ≡ Some one = sym e ∙ is in
            absurd (cc)
        by (Some one) e None f =
            let (other, is, named, found) = attached-twin fit path entries others alike one e in
            let none : None ≡ Some other = sym f ∙ is in
            absurd (cc)
        by (Some one) e (Some other) f =
            let (twin, is, named, found) = attached-twin fit path entries others alike one e in
            let equal : Some twin ≡ Some other = sym is ∙ f in
            let own : twin ≡ other = cc in
            entries-named entries others alike one.profile.name one other named (found ∙ ap (λ (e : Loaded). Some e) own)

    -- the profile in force of a name, or its child or hat of one
    named-alike : (name : List ℕ) (child : Option (List ℕ))
        → LeadAlike entries others (option_map under (option_and_then (entry_asker child) (if_in_force (entry_named name entries))))
        (option_map under (option_and_then (entry_asker child) (if_in_force (entry_named name others))))
    named-alike name child = by (entry_named name entries) refl (entry_named name others) refl
      where
        by_child : (one other : Loaded) → entry_named name entries ≡ Some one → entry_named name others ≡ Some other
            → (child : Option (List ℕ))
            → LeadAlike entries others (option_map under (entry_asker child one)) (option_map under (entry_asker child other))
        by_child one other e f None = entries-named entries others alike name one other e f
        by_child one other e f (Some child) = at (child_place child one.profile.children) refl (child_place child other.profile.children) refl
            (twin-child entries others alike name one other e f child)
          where
            at : (place : Option ℕ) → child_place child one.profile.children ≡ place → (spot : Option ℕ)
                → child_place child other.profile.children ≡ spot
                → AreThereAlike (option_map (child_at one) place) (option_map (child_at other) spot)
                → LeadAlike entries others (option_map under (option_map (child_at one) place)) (option_map under (option_map (child_at other) spot))
            at None g None h there = tt
            at None g (Some spot) h there = absurd there
            at (Some place) g None h there = absurd there
            at (Some place) g (Some spot) h there = children-named entries others alike name one other child place spot e f g h

        by_force : (force : Bool) (one other : Loaded) → entry_named name entries ≡ Some one → entry_named name others ≡ Some other
            → LeadAlike entries others (option_map under (option_and_then (entry_asker child) (if force then Some one else None)))
            (option_map under (option_and_then (entry_asker child) (if force then Some other else None)))
        by_force true one other e f = by_child one other e f child
        by_force false one other e f = tt

        by : (one : Option Loaded) → entry_named name entries ≡ one → (other : Option Loaded) → entry_named name others ≡ other
            → LeadAlike entries others (option_map under (option_and_then (entry_asker child) (if_in_force one)))
            (option_map under (option_and_then (entry_asker child) (if_in_force other)))
        by None e None f = tt
        by None e (Some other) f =
            let (one, is, confined) = twin-entry others entries (policies-back entries others alike) name other f in
            let none : None ≡ Some one = sym e ∙ is in
            absurd (cc)
        by (Some one) e None f =
            let (other, is, confined) = twin-entry entries others alike name one e in
            let none : None ≡ Some other = sym f ∙ is in
            absurd (cc)
        by (Some one) e (Some other) f =
            let (twin, is, confined) = twin-entry entries others alike name one e in
            let equal : Some twin ≡ Some other = sym is ∙ f in
            let own : twin ≡ other = cc in
            let force : is_in_force one.state ≡ is_in_force other.state =
            same-force (itself one) (itself twin) confined ∙ ap (λ (e : Loaded). is_in_force e.state) own in
            subst
            (λ force. LeadAlike entries others (option_map under (option_and_then (entry_asker child) (if_in_force (Some one))))
            (option_map under (option_and_then (entry_asker child) (if force then Some other else None)))) force
            (by_force (is_in_force one.state) one other e f)

    full-alike : (name : List ℕ) → LeadAlike entries others (by_full_name name entries) (by_full_name name others)
    full-alike name =
        let profile = (full_name name).profile in
        let child = (full_name name).child in
        let here = force-named profile entries alike.names.0 in
        let there = force-named profile others alike.other_names.0 in
        subst (λ found. LeadAlike entries others (option_map under (option_and_then (entry_asker child) found)) (by_full_name name others)) (sym here)
        (subst (λ found. LeadAlike entries others (option_map under (option_and_then (entry_asker child) (if_in_force (entry_named profile entries))))
        (option_map under (option_and_then (entry_asker child) found))) (sym there)
        (named-alike profile child))

    profile-alike : (target : Option (List ℕ)) → LeadAlike entries others (to_profile path target entries) (to_profile path target others)
    profile-alike (Some name) = full-alike name
    profile-alike None = attached-alike

    -- a child or hat of an entry, by its name or by what the path is attached to
    abbrev pub child_of : Option (List ℕ) → Loaded → Option Started
    child_of target entry = option_map (λ place. Under entry (Some place)) (place_of_child path target entry.profile)

    child-alike : (name : List ℕ) (one other : Loaded) → entry_named name entries ≡ Some one → entry_named name others ≡ Some other
        → (target : Option (List ℕ)) → LeadAlike entries others (child_of target one) (child_of target other)
    child-alike name one other e f (Some child) =
        at (child_place child one.profile.children) refl (child_place child other.profile.children) refl
        (twin-child entries others alike name one other e f child)
      where
        at : (place : Option ℕ) → child_place child one.profile.children ≡ place → (spot : Option ℕ) → child_place child other.profile.children ≡ spot
            → AreThereAlike (option_map (child_at one) place) (option_map (child_at other) spot)
            → LeadAlike entries others (option_map (λ place. Under one (Some place)) place) (option_map (λ place. Under other (Some place)) spot)
        at None g None h there = tt
        at None g (Some spot) h there = absurd there
        at (Some place) g None h there = absurd there
        at (Some place) g (Some spot) h there = children-named entries others alike name one other child place spot e f g h
    child-alike name one other e f None =
        at (attached_child path one.profile.children) refl (attached_child path other.profile.children) refl
      where
        apart : are_distinct_children one.profile.children ≡ true
        apart = alike.names.1 one (named-is name entries one e).0

        other_apart : are_distinct_children other.profile.children ≡ true
        other_apart = alike.other_names.1 other (named-is name others other f).0

        there : (child : List ℕ) → AreThereAlike (entry_asker (Some child) one) (entry_asker (Some child) other)
        there = twin-child entries others alike name one other e f

        back : (child : List ℕ) → AreThereAlike (entry_asker (Some child) other) (entry_asker (Some child) one)
        back = twin-child others entries (policies-back entries others alike) name other one f e

        at : (place : Option ℕ) → attached_child path one.profile.children ≡ place → (spot : Option ℕ)
            → attached_child path other.profile.children ≡ spot
            → LeadAlike entries others (option_map (λ place. Under one (Some place)) place) (option_map (λ place. Under other (Some place)) spot)
        at None g None h = tt
        at None g (Some spot) h =
            let (child, place, is, found, stands) = child-twin rank path other one other_apart apart back there spot h in
            let none : None ≡ Some place = sym g ∙ is in
            absurd (cc)
        at (Some place) g None h =
            let (child, spot, is, found, stands) = child-twin rank path one other apart other_apart there back place g in
            let none : None ≡ Some spot = sym h ∙ is in
            absurd (cc)
        at (Some place) g (Some spot) h =
            let (child, twin, is, found, stands) = child-twin rank path one other apart other_apart there back place g in
            let equal : Some twin ≡ Some spot = sym is ∙ h in
            let own : twin ≡ spot = cc in
            children-named entries others alike name one other child place spot e f found (stands ∙ ap (λ (n : ℕ). Some n) own)

    -- who asks has a child or hat of its own where it is a profile
    abbrev pub own_child : Option (List ℕ) → Asker → Option ℕ → Option Started
    own_child target who child = elim child [
      | Some place ↦ None
      | None ↦ child_of target who.entry
    ]

    -- what holds of two profiles, and of any child or hat and another, holds of two that have one full name
    by-standing : (Holds : Option ℕ → Option ℕ → Type 0) (one other : Asker) → (same : HaveOneName entries others one other)
        → (entry_named same.name.profile entries ≡ Some one.entry → entry_named same.name.profile others ≡ Some other.entry → Holds None None)
        → ((place spot : ℕ) → Holds (Some place) (Some spot))
        → Holds one.child other.child
    by-standing Holds one other same profiles children = by same.name.child here.1 there.1
      where
        here : (entry_named same.name.profile entries ≡ Some one.entry) × (entry_asker same.name.child one.entry ≡ Some one)
        here = asker-named same.name entries one same.here

        there : (entry_named same.name.profile others ≡ Some other.entry) × (entry_asker same.name.child other.entry ≡ Some other)
        there = asker-named same.name others other same.there

        joined : (child place : Option ℕ) → child ≡ one.child → place ≡ other.child → Holds child place → Holds one.child other.child
        joined child place e f holds = subst (λ child. Holds child other.child) e (subst (λ place. Holds child place) f holds)

        child-is : (who asks : Asker) → Some who ≡ Some asks → who.child ≡ asks.child
        child-is who asks e = ap (λ (o : Option Asker). elim o [ None ↦ who.child | Some a ↦ a.child ]) e

        at : (place spot : Option ℕ) → option_map (child_at one.entry) place ≡ Some one → option_map (child_at other.entry) spot ≡ Some other
            → Holds one.child other.child
        at None spot e f = absurd (cc)
        at (Some place) None e f = absurd (cc)
        at (Some place) (Some spot) e f =
            joined (Some place) (Some spot) (child-is (child_at one.entry place) one e) (child-is (child_at other.entry spot) other f) (children place spot)

        by : (child : Option (List ℕ)) → entry_asker child one.entry ≡ Some one → entry_asker child other.entry ≡ Some other → Holds one.child other.child
        by None e f = joined None None (child-is (itself one.entry) one e) (child-is (itself other.entry) other f) (profiles here.0 there.0)
        by (Some name) e f = at (child_place name one.entry.profile.children) (child_place name other.entry.profile.children) e f

    to-child-alike : (target : Option (List ℕ)) (one other : Asker) → HaveOneName entries others one other
        → LeadAlike entries others (to_child path target one) (to_child path target other)
    to-child-alike target one other same =
        by-standing (λ child place. LeadAlike entries others (own_child target one child) (own_child target other place)) one other same
        (λ here there. child-alike same.name.profile one.entry other.entry here there target)
        (λ place spot. tt)

    -- a destination, and a transition
    led-alike : (target : Option (List ℕ)) (one other : Asker) → HaveOneName entries others one other → (destination : Destination)
        → LeadAlike entries others (led path target entries one destination) (led path target others other destination)
    led-alike target one other same to.Profile = profile-alike target
    led-alike target one other same to.Child = to-child-alike target one other same
    led-alike target one other same to.Inherit = same
    led-alike target one other same to.Unconfined = tt

    -- full names are in force in both, or in neither
    there-alike : (one other : Option Started) → LeadAlike entries others one other → is_some one ≡ is_some other
    there-alike None None lead = refl
    there-alike (Some one) (Some other) lead = refl
    there-alike None (Some other) lead = absurd lead
    there-alike (Some one) None lead = absurd lead

    force-alike : (names : List (List ℕ)) → are_in_force names entries ≡ are_in_force names others
    force-alike [] = refl
    force-alike (name ∷ names) =
        ap (λ here. here && are_in_force names entries) (there-alike (by_full_name name entries) (by_full_name name others) (full-alike name))
        ∙ ap (λ rest. is_some (by_full_name name others) && rest) (force-alike names)

    -- what a stack is on
    fallback-stands : (one other : Asker) → HaveOneName entries others one other → (fallback : Option Destination)
        → StandAlike entries others (option_and_then (fallback_base one) fallback) (option_and_then (fallback_base other) fallback)
    fallback-stands one other same None = tt
    fallback-stands one other same (Some to.Inherit) = same
    fallback-stands one other same (Some to.Unconfined) = tt
    fallback-stands one other same (Some to.Profile) = tt
    fallback-stands one other same (Some to.Child) = tt

    -- by the profile that is attached
    abbrev pub attached_base : Asker → Option Destination → Option Loaded → Option Base
    attached_base who fallback None = option_and_then (fallback_base who) fallback
    attached_base who fallback (Some entry) = Some (OnProfile entry None)

    -- and by the profile that asks
    abbrev pub own_base : Asker → Option ℕ → Option Base
    own_base who None = Some (OnProfile who.entry None)
    own_base who (Some place) = None

    base-alike : (one other : Asker) → HaveOneName entries others one other → (destination : Destination) (fallback : Option Destination)
        → StandAlike entries others (base_of path entries one destination fallback) (base_of path others other destination fallback)
    base-alike one other same to.Profile fallback = by (attached path entries) (attached path others) attached-alike
      where
        by : (here there : Option Loaded) → LeadAlike entries others (option_map under_it here) (option_map under_it there)
            → StandAlike entries others (attached_base one fallback here) (attached_base other fallback there)
        by None None lead = fallback-stands one other same fallback
        by (Some here) (Some there) lead = lead
        by None (Some there) lead = absurd lead
        by (Some here) None lead = absurd lead
    base-alike one other same to.Child fallback =
        by-standing (λ child place. StandAlike entries others (own_base one child) (own_base other place)) one other same
        (λ here there. entries-named entries others alike same.name.profile one.entry other.entry here there)
        (λ place spot. tt)
    base-alike one other same to.Inherit fallback = tt
    base-alike one other same to.Unconfined fallback = tt

    -- a stack
    stack-alike : (one other : Asker) → HaveOneName entries others one other → (word : ExecWord) (stack : Stack)
        → LeadAlike entries others (to_stack path entries one word stack) (to_stack path others other word stack)
    stack-alike one other same word stack =
        let base = base_of path others other (row word).destination (row word).fallback in
        subst (λ force. LeadAlike entries others (to_stack path entries one word stack) (if force then stacked_on stack base else None)) (force-alike stack.members)
        (by (are_in_force stack.members entries) stack.on_base (base_of path entries one (row word).destination (row word).fallback) base
        (base-alike one other same (row word).destination (row word).fallback))
      where
        stacked : Bool → Option Base → Option Started
        stacked on base = if on then option_map (λ base. Stacked (Some base) stack.members) base else Some (Stacked None stack.members)

        by : (force on : Bool) (here there : Option Base) → StandAlike entries others here there
            → LeadAlike entries others (if force then stacked on here else None) (if force then stacked on there else None)
        by false on here there stand = tt
        by true false here there stand = (tt, refl)
        by true true None None stand = tt
        by true true (Some here) (Some there) stand = (stand, refl)
        by true true None (Some there) stand = absurd stand
        by true true (Some here) None stand = absurd stand

    -- the word of a transition
    abbrev pub by_stack : List Loaded → Asker → Transition → Option Stack → Option Started
    by_stack set who transition None = led path transition.target set who (row transition.word).destination
    by_stack set who transition (Some stack) = to_stack path set who transition.word stack

    word-alike : (one other : Asker) → HaveOneName entries others one other → (transition : Transition)
        → LeadAlike entries others (led_by_word path entries one transition) (led_by_word path others other transition)
    word-alike one other same transition = by (named_stack transition)
      where
        by : (stack : Option Stack) → LeadAlike entries others (by_stack entries one transition stack) (by_stack others other transition stack)
        by None = led-alike transition.target one other same (row transition.word).destination
        by (Some stack) = stack-alike one other same transition.word stack

    pub transition-alike : (one other : Asker) → HaveOneName entries others one other → (transition : Transition)
        → LeadAlike entries others (led_by path entries one transition) (led_by path others other transition)
    transition-alike one other same transition =
        by (led_by_word path entries one transition) (led_by_word path others other transition)
        (word-alike one other same transition) (row transition.word).fallback
      where
        by : (here there : Option Started) → LeadAlike entries others here there → (fallback : Option Destination)
            → LeadAlike entries others (elim here [ Some to ↦ Some to | None ↦ option_and_then (led path transition.target entries one) fallback ])
            (elim there [ Some to ↦ Some to | None ↦ option_and_then (led path transition.target others other) fallback ])
        by None None lead None = tt
        by None None lead (Some destination) = led-alike transition.target one other same destination
        by (Some here) (Some there) lead fallback = lead
        by None (Some there) lead fallback = absurd lead
        by (Some here) None lead fallback = absurd lead
