-- The start of programs: what holds of every answer, by its cases.
use Rattle.std.proofs.Common.{◌≡◌, ℕ, zero, suc, ◌<◌, Bool, true, false, List, [], ◌∷◌, Option, None, Some, arith, ap, refl, sym, ◌∙◌, subst}
use Rattle.std.specs.Prelude.{◌&&◌, ◌||◌, IfSome, cond, find, if◌then◌else◌, is_some, option_and_then, slice_get}
use Rattle.std.specs.List.{Contains, list_any}
use Rattle.std.specs.Option.{option_map}
use Rattle.std.specs.Str.{bytes_eq}
use Rattle.std.proofs.lemmas.Bool.{and_parts}
use Rattle.std.proofs.lemmas.Slice.Eq.{bytes_eq-Decides}
use Rattle.aa_profile_data.specs.Access.{EXEC}
use Rattle.aa_profile_data.specs.ExecWords.{row}
use Rattle.aa_profile_data.specs.Stacks.{Stack}
use Rattle.aa_profile_data.specs.declared.exec_word.Destination.{Destination}
use Rattle.aa_profile_data.specs.declared.exec_word.Destination.TheVariants as to
use Rattle.aa_profile_data.specs.declared.exec_word.ExecWord.{ExecWord}
use Rattle.aa_decide_rules.specs.Ranks.{best_rank}
use Rattle.aa_decide_rules.specs.Choices.{Choice, Denied as DeniedByRule, Leads, Missing, choice, choice_of, denies}
use Rattle.aa_decide_rules.specs.ExecRules.{Denying, ExecRule, Leading, exec_rules, said_of}
use Rattle.aa_profile_data.specs.FullNames.{full_name}
use Rattle.aa_profile_data.specs.Profile.{child_place}
use Rattle.aa_profile_data.specs.declared.profile.Mode.{Mode}
use Rattle.aa_profile_data.specs.declared.profile.Mode.TheVariants.{Complain, Enforce, Unconfined as UnconfinedMode}
use Rattle.aa_profile_data.specs.declared.profile.Rule.{Rule}
use Rattle.aa_profile_data.specs.declared.profile.Transition.{Transition}
use Rattle.aa_decide.specs.Attachment.{attached}
use Rattle.aa_decide_rules.specs.declared.judgement.Mediation.{Mediation}
use Rattle.aa_decide_rules.specs.declared.judgement.Mediation.TheVariants.{Complaining, Enforcing}
use Rattle.aa_decide_ready.specs.Confinement.{By, ByName, Confinement, Unconfined as NotConfined, confined, in_state, mode_at}
use Rattle.aa_decide_ready.specs.Entries.{Loaded, is_in_force}
use Rattle.aa_decide.specs.Exec.{Asker, Base, ExecAnswer, Nowhere, Null, OnProfile, Stacked, Started, Unconfined, Under, are_in_force, asking_base, base_of, by_choice, by_full_name}
use Rattle.aa_decide.specs.Exec.{carried_out, confined_start, entry_asker, exec_answer, fallback_base, is_named_in_force, led, led_by, led_by_word, missing, named_in_force, named_stack, own_start}
use Rattle.aa_decide.specs.Exec.{place_of_child, stacked_on, started, to_child, to_profile, to_stack, unconfined_start, under}
use Rattle.aa_decide.specs.ExecLaws.{DifferInOrder, IsBaseInForce, SomeRuleDenies}
use Rattle.aa_decide_ready.specs.Sections.{Section, section_at}
use Rattle.aa_decide_ready.specs.declared.entry.State.{State}
use Rattle.aa_decide_ready.specs.declared.entry.State.TheVariants.{Disabled, Modes}
use Rattle.aa_decide_rules.specs.declared.verdict.Answer.TheVariants.{Deny}
use Rattle.aa_decide.proofs.AttachmentLemmas.{RankLaw, at-there, attached-holds, attached-order, one-named}

-- the answer by where a transition leads, and by the profile that is attached
abbrev carried : Mediation → Bool → Bool → Option Started → ExecAnswer
carried mediation audited scrub None = missing mediation
carried mediation audited scrub (Some to) = started audited to scrub

abbrev unconfined : Option Loaded → ExecAnswer
unconfined None = started false Unconfined false
unconfined (Some entry) = started false (Under entry None) false

abbrev by_name : Asker → Option Loaded → ExecAnswer
by_name asker None = started false (under asker) false
by_name asker (Some entry) = started false (Under entry None) false

-- where the word of a transition leads by the stack that it names
abbrev by_stack : List ℕ → List Loaded → Asker → Transition → Option Stack → Option Started
by_stack path entries asker transition None = led path transition.target entries asker (row transition.word).destination
by_stack path entries asker transition (Some stack) = to_stack path entries asker transition.word stack

-- what a search finds is among the items and passes the test
found-there : {A : Type 0} (test : A → Bool) (items : List A) (item : A) → find test items ≡ Some item → (test item ≡ true) × Contains items item
found-there test [] item holds = absurd (cc)
found-there test (first ∷ items) item holds = by (test first) refl (found-there test items item) holds
  where
    by : (here : Bool) → test first ≡ here → (find test items ≡ Some item → (test item ≡ true) × Contains items item) → cond here (Some first) (find test items) ≡ Some item
        → (test item ≡ true) × Contains (first ∷ items) item
    by true e rest holds = let is : first ≡ item = cc in (ap test (sym is) ∙ e, (0, omega arith, is))
    by false e rest holds = let found = rest holds in let place = found.1 in (found.0, (suc place.0, (let within = place.1 in omega arith), place.2))

-- and where some item passes it, one is found
passes-found : {A : Type 0} (test : A → Bool) (items : List A) (place : ℕ) (item : A) → slice_get items place ≡ Some item → test item ≡ true → find test items ≡ None → ⊥
passes-found test [] place item at passes none = absurd (cc)
passes-found test (first ∷ items) zero item at passes none =
    let is : first ≡ item = cc in
    let here : test first ≡ true = ap test is ∙ passes in
    let some : find test (first ∷ items) ≡ Some first = rw here refl in
    absurd (cc)
passes-found test (first ∷ items) (suc place) item at passes none = by (test first) (passes-found test items place item at passes) none
  where
    by : (here : Bool) → (find test items ≡ None → ⊥) → cond here (Some first) (find test items) ≡ None → ⊥
    by true rest none = absurd (cc)
    by false rest none = rest none

-- a profile in force of a name is found in whatever order the profiles stand
named-order : (name : List ℕ) (entries others : List Loaded) → DifferInOrder entries others → named_in_force name entries ≡ named_in_force name others
named-order name entries others (distinct, apart, same) = by (named_in_force name entries) refl (named_in_force name others) refl
  where
    by : (one : Option Loaded) → named_in_force name entries ≡ one → (other : Option Loaded) → named_in_force name others ≡ other → one ≡ other
    by None e None f = refl
    by (Some one) e None f =
        let found = found-there (is_named_in_force name) entries one e in
        let there = same.0 one found.1 in
        absurd (passes-found (is_named_in_force name) others there.0 one (at-there others one there) found.0 f)
    by None e (Some other) f =
        let found = found-there (is_named_in_force name) others other f in
        let there = same.1 other found.1 in
        absurd (passes-found (is_named_in_force name) entries there.0 other (at-there entries other there) found.0 e)
    by (Some one) e (Some other) f =
        let here = found-there (is_named_in_force name) entries one e in
        let there = found-there (is_named_in_force name) others other f in
        let first = (bytes_eq-Decides one.profile.name name).0 (and_parts (is_in_force one.state) (bytes_eq one.profile.name name) here.0).1 in
        let second = (bytes_eq-Decides other.profile.name name).0 (and_parts (is_in_force other.state) (bytes_eq other.profile.name name) there.0).1 in
        ap Some (one-named entries distinct one other here.1 (same.1 other there.1) (first ∙ sym second))

-- where a program runs is in force
abbrev IsInForce : List Loaded → Started → Type 0
IsInForce entries (Under entry child) = is_in_force entry.state ≡ true
IsInForce entries Unconfined = Unit {0}
IsInForce entries (Stacked base members) = IfSome base IsBaseInForce × (are_in_force members entries ≡ true)
IsInForce entries Null = Unit {0}
IsInForce entries Nowhere = Unit {0}

entry_asker-in_force : (entries : List Loaded) (child : Option (List ℕ)) (entry : Loaded) → is_in_force entry.state ≡ true
    → IfSome (option_map under (entry_asker child entry)) (IsInForce entries)
entry_asker-in_force entries None entry h = h
entry_asker-in_force entries (Some name) entry h = by (child_place name entry.profile.children)
  where
    asker_at : ℕ → Asker
    asker_at place = record { entry = entry; child = Some place }

    by : (place : Option ℕ) → IfSome (option_map under (option_map asker_at place)) (IsInForce entries)
    by None = tt
    by (Some place) = h

by_full_name-in_force : (name : List ℕ) (entries : List Loaded) → IfSome (by_full_name name entries) (IsInForce entries)
by_full_name-in_force name entries = by (named_in_force (full_name name).profile entries) refl
  where
    by : (found : Option Loaded) → named_in_force (full_name name).profile entries ≡ found
        → IfSome (option_map under (option_and_then (entry_asker (full_name name).child) found)) (IsInForce entries)
    by None e = tt
    by (Some entry) e =
        let found = found-there (is_named_in_force (full_name name).profile) entries entry e in
        entry_asker-in_force entries (full_name name).child entry (and_parts (is_in_force entry.state) (bytes_eq entry.profile.name (full_name name).profile) found.0).0

to_child-in_force : (path : List ℕ) (target : Option (List ℕ)) (entries : List Loaded) (asker : Asker) → is_in_force asker.entry.state ≡ true
    → IfSome (to_child path target asker) (IsInForce entries)
to_child-in_force path target entries asker h = by asker.child (place_of_child path target asker.entry.profile)
  where
    by : (child place : Option ℕ) → IfSome (elim child [ Some place ↦ None | None ↦ option_map (λ place. Under asker.entry (Some place)) place ]) (IsInForce entries)
    by (Some child) place = tt
    by None None = tt
    by None (Some place) = h

-- so is what a stack is on
fallback_base-in_force : (asker : Asker) (fallback : Option Destination) → is_in_force asker.entry.state ≡ true
    → IfSome (option_and_then (fallback_base asker) fallback) IsBaseInForce
fallback_base-in_force asker None h = tt
fallback_base-in_force asker (Some to.Profile) h = tt
fallback_base-in_force asker (Some to.Child) h = tt
fallback_base-in_force asker (Some to.Inherit) h = h
fallback_base-in_force asker (Some to.Unconfined) h = tt

asking_base-in_force : (asker : Asker) → is_in_force asker.entry.state ≡ true → IfSome (asking_base asker) IsBaseInForce
asking_base-in_force asker h = by asker.child
  where
    by : (child : Option ℕ) → IfSome (elim child [ Some place ↦ None | None ↦ Some (OnProfile asker.entry None) ]) IsBaseInForce
    by (Some place) = tt
    by None = h

stacked-in_force : (entries : List Loaded) (stack : Stack) (base : Option Base) → IfSome base IsBaseInForce → (force : Bool) → are_in_force stack.members entries ≡ force
    → IfSome (if force then stacked_on stack base else None) (IsInForce entries)
stacked-in_force entries stack base there false e = tt
stacked-in_force entries stack base there true e = by stack.on_base base there
  where
    by : (on : Bool) (base : Option Base) → IfSome base IsBaseInForce
        → IfSome (if on then option_map (λ base. Stacked (Some base) stack.members) base else Some (Stacked None stack.members)) (IsInForce entries)
    by true None there = tt
    by true (Some base) there = (there, e)
    by false base there = (tt, e)

module _ (law : RankLaw) where
  -- a profile that is attached is in force
  attached-in_force : (path : List ℕ) (entries : List Loaded) (entry : Loaded) → attached path entries ≡ Some entry → is_in_force entry.state ≡ true
  attached-in_force path entries entry holds = by (is_in_force entry.state) refl (attached-holds law path entries entry holds).1
    where
      by : (force : Bool) → is_in_force entry.state ≡ force → 0 < (if force then best_rank path entry.profile.attachments else 0) → force ≡ true
      by true e above = refl
      by false e above = absurd (omega arith)

  to_profile-in_force : (path : List ℕ) (target : Option (List ℕ)) (entries : List Loaded) → IfSome (to_profile path target entries) (IsInForce entries)
  to_profile-in_force path (Some name) entries = by_full_name-in_force name entries
  to_profile-in_force path None entries = by (attached path entries) refl
    where
      by : (found : Option Loaded) → attached path entries ≡ found → IfSome (option_map (λ entry. Under entry None) found) (IsInForce entries)
      by None e = tt
      by (Some entry) e = attached-in_force path entries entry e

  led-in_force : (path : List ℕ) (target : Option (List ℕ)) (entries : List Loaded) (asker : Asker) (destination : Destination) → is_in_force asker.entry.state ≡ true
      → IfSome (led path target entries asker destination) (IsInForce entries)
  led-in_force path target entries asker to.Profile h = to_profile-in_force path target entries
  led-in_force path target entries asker to.Child h = to_child-in_force path target entries asker h
  led-in_force path target entries asker to.Inherit h = h
  led-in_force path target entries asker to.Unconfined h = tt

  base_of-in_force : (path : List ℕ) (entries : List Loaded) (asker : Asker) (destination : Destination) (fallback : Option Destination) → is_in_force asker.entry.state ≡ true
      → IfSome (base_of path entries asker destination fallback) IsBaseInForce
  base_of-in_force path entries asker to.Profile fallback h = by (attached path entries) refl
    where
      by : (found : Option Loaded) → attached path entries ≡ found
          → IfSome (elim found [ Some entry ↦ Some (OnProfile entry None) | None ↦ option_and_then (fallback_base asker) fallback ]) IsBaseInForce
      by None e = fallback_base-in_force asker fallback h
      by (Some entry) e = attached-in_force path entries entry e
  base_of-in_force path entries asker to.Child fallback h = asking_base-in_force asker h
  base_of-in_force path entries asker to.Inherit fallback h = tt
  base_of-in_force path entries asker to.Unconfined fallback h = tt

  led_by_word-in_force : (path : List ℕ) (entries : List Loaded) (asker : Asker) (transition : Transition) → is_in_force asker.entry.state ≡ true
      → IfSome (led_by_word path entries asker transition) (IsInForce entries)
  led_by_word-in_force path entries asker transition h = by (named_stack transition)
    where
      by : (stack : Option Stack) → IfSome (by_stack path entries asker transition stack) (IsInForce entries)
      by None = led-in_force path transition.target entries asker (row transition.word).destination h
      by (Some stack) =
          let base = base_of path entries asker (row transition.word).destination (row transition.word).fallback in
          let there = base_of-in_force path entries asker (row transition.word).destination (row transition.word).fallback h in
          stacked-in_force entries stack base there (are_in_force stack.members entries) refl

  led_by-in_force : (path : List ℕ) (entries : List Loaded) (asker : Asker) (transition : Transition) → is_in_force asker.entry.state ≡ true
      → IfSome (led_by path entries asker transition) (IsInForce entries)
  led_by-in_force path entries asker transition h =
      by (led_by_word path entries asker transition) (led_by_word-in_force path entries asker transition h) (row transition.word).fallback
    where
      by : (first : Option Started) → IfSome first (IsInForce entries) → (fallback : Option Destination)
          → IfSome (elim first [ Some to ↦ Some to | None ↦ option_and_then (led path transition.target entries asker) fallback ]) (IsInForce entries)
      by (Some to) there fallback = there
      by None there None = tt
      by None there (Some fallback) = led-in_force path transition.target entries asker fallback h

  missing-in_force : (entries : List Loaded) (mediation : Mediation) → IsInForce entries (missing mediation).to
  missing-in_force entries Enforcing = tt
  missing-in_force entries Complaining = tt

  carried-in_force : (path : List ℕ) (entries : List Loaded) (asker : Asker) (mediation : Mediation) (transition : Transition) (audited : Bool) → is_in_force asker.entry.state ≡ true
      → IsInForce entries (carried_out path entries asker mediation transition audited).to
  carried-in_force path entries asker mediation transition audited h = by (led_by path entries asker transition) (led_by-in_force path entries asker transition h)
    where
      by : (found : Option Started) → IfSome found (IsInForce entries) → IsInForce entries (carried mediation audited (row transition.word).scrubs found).to
      by None there = missing-in_force entries mediation
      by (Some to) there = there

  choice-in_force : (path : List ℕ) (entries : List Loaded) (asker : Asker) (mediation : Mediation) (choice : Choice) → is_in_force asker.entry.state ≡ true
      → IsInForce entries (by_choice path entries asker mediation choice).to
  choice-in_force path entries asker mediation (DeniedByRule audited) h = tt
  choice-in_force path entries asker mediation Missing h = missing-in_force entries mediation
  choice-in_force path entries asker mediation (Leads transition audited) h = carried-in_force path entries asker mediation transition audited h

  unconfined-in_force : (path : List ℕ) (entries : List Loaded) → IsInForce entries (unconfined_start path entries).to
  unconfined-in_force path entries = by (attached path entries) refl
    where
      by : (found : Option Loaded) → attached path entries ≡ found → IsInForce entries (unconfined found).to
      by None e = tt
      by (Some entry) e = attached-in_force path entries entry e

  own-in_force : (path : List ℕ) (entries : List Loaded) (asker : Asker) → is_in_force asker.entry.state ≡ true → IsInForce entries (own_start path entries asker).to
  own-in_force path entries asker h = by (attached path entries) refl
    where
      by : (found : Option Loaded) → attached path entries ≡ found → IsInForce entries (by_name asker found).to
      by None e = h
      by (Some entry) e = attached-in_force path entries entry e

  confined-in_force : (owned : Bool) (path : List ℕ) (entries : List Loaded) (asker : Asker) (section : Section) (mode : Mode) → is_in_force asker.entry.state ≡ true
      → IsInForce entries (confined_start owned path entries asker (confined section mode)).to
  confined-in_force owned path entries asker section Enforce h = choice-in_force path entries asker Enforcing (choice section.audit owned path section.rules) h
  confined-in_force owned path entries asker section Complain h = choice-in_force path entries asker Complaining (choice section.audit owned path section.rules) h
  confined-in_force owned path entries asker section UnconfinedMode h = own-in_force path entries asker h

  to-in_force : (entries : List Loaded) (asker : Option Asker) (owned : Bool) (path : List ℕ) → IsInForce entries (exec_answer entries asker owned path).to
  to-in_force entries None owned path = unconfined-in_force path entries
  to-in_force entries (Some asker) owned path = by asker.entry.state refl
    where
      by : (state : State) → asker.entry.state ≡ state → IsInForce entries (confined_start owned path entries asker (in_state asker.entry.profile state asker.child)).to
      by Disabled e = unconfined-in_force path entries
      by (Modes modes) e =
          confined-in_force owned path entries asker (section_at asker.entry.profile asker.child) (mode_at modes asker.child) (ap is_in_force e)

  -- a program never runs under a disabled profile
  pub answer-in_force : (entries : List Loaded) (asker : Option Asker) (owned : Bool) (path : List ℕ) (entry : Loaded) (child : Option ℕ)
      → (exec_answer entries asker owned path).to ≡ Under entry child → is_in_force entry.state ≡ true
  answer-in_force entries asker owned path entry child holds = subst (IsInForce entries) holds (to-in_force entries asker owned path)

  -- nor on a stack of one
  pub stack-in_force : (entries : List Loaded) (asker : Option Asker) (owned : Bool) (path : List ℕ) (base : Option Base) (members : List (List ℕ))
      → (exec_answer entries asker owned path).to ≡ Stacked base members → IfSome base IsBaseInForce × (are_in_force members entries ≡ true)
  stack-in_force entries asker owned path base members holds = subst (IsInForce entries) holds (to-in_force entries asker owned path)

  -- in whatever order the profiles stand, the program runs under the same
  full_name-order : (name : List ℕ) (entries others : List Loaded) → DifferInOrder entries others → by_full_name name entries ≡ by_full_name name others
  full_name-order name entries others same =
      ap (λ found. option_map under (option_and_then (entry_asker (full_name name).child) found)) (named-order (full_name name).profile entries others same)

  to_profile-order : (path : List ℕ) (target : Option (List ℕ)) (entries others : List Loaded) → DifferInOrder entries others → to_profile path target entries ≡ to_profile path target others
  to_profile-order path None entries others same = ap (option_map (λ entry. Under entry None)) (attached-order law path entries others same)
  to_profile-order path (Some name) entries others same = full_name-order name entries others same

  led-order : (path : List ℕ) (target : Option (List ℕ)) (entries others : List Loaded) (asker : Asker) (destination : Destination) → DifferInOrder entries others
      → led path target entries asker destination ≡ led path target others asker destination
  led-order path target entries others asker to.Profile same = to_profile-order path target entries others same
  led-order path target entries others asker to.Child same = refl
  led-order path target entries others asker to.Inherit same = refl
  led-order path target entries others asker to.Unconfined same = refl

  force-order : (names : List (List ℕ)) (entries others : List Loaded) → DifferInOrder entries others → are_in_force names entries ≡ are_in_force names others
  force-order [] entries others same = refl
  force-order (name ∷ names) entries others same =
      ap (λ here. here && are_in_force names entries) (ap is_some (full_name-order name entries others same))
      ∙ ap (λ rest. is_some (by_full_name name others) && rest) (force-order names entries others same)

  base-order : (path : List ℕ) (entries others : List Loaded) (asker : Asker) (destination : Destination) (fallback : Option Destination) → DifferInOrder entries others
      → base_of path entries asker destination fallback ≡ base_of path others asker destination fallback
  base-order path entries others asker to.Profile fallback same =
      ap (λ found. elim found [ Some entry ↦ Some (OnProfile entry None) | None ↦ option_and_then (fallback_base asker) fallback ]) (attached-order law path entries others same)
  base-order path entries others asker to.Child fallback same = refl
  base-order path entries others asker to.Inherit fallback same = refl
  base-order path entries others asker to.Unconfined fallback same = refl

  stack-order : (path : List ℕ) (entries others : List Loaded) (asker : Asker) (word : ExecWord) (stack : Stack) → DifferInOrder entries others
      → to_stack path entries asker word stack ≡ to_stack path others asker word stack
  stack-order path entries others asker word stack same =
      ap (λ force. if force then stacked_on stack (base_of path entries asker (row word).destination (row word).fallback) else None) (force-order stack.members entries others same)
      ∙ ap (λ base. if are_in_force stack.members others then stacked_on stack base else None) (base-order path entries others asker (row word).destination (row word).fallback same)

  word-order : (path : List ℕ) (entries others : List Loaded) (asker : Asker) (transition : Transition) → DifferInOrder entries others
      → led_by_word path entries asker transition ≡ led_by_word path others asker transition
  word-order path entries others asker transition same = by (named_stack transition)
    where
      by : (stack : Option Stack) → by_stack path entries asker transition stack ≡ by_stack path others asker transition stack
      by None = led-order path transition.target entries others asker (row transition.word).destination same
      by (Some stack) = stack-order path entries others asker transition.word stack same

  led_by-order : (path : List ℕ) (entries others : List Loaded) (asker : Asker) (transition : Transition) → DifferInOrder entries others
      → led_by path entries asker transition ≡ led_by path others asker transition
  led_by-order path entries others asker transition same =
      ap (λ first. elim first [ Some to ↦ Some to | None ↦ option_and_then (led path transition.target entries asker) (row transition.word).fallback ])
      (word-order path entries others asker transition same)
      ∙ ap (λ second. elim (led_by_word path others asker transition) [ Some to ↦ Some to | None ↦ second ]) (by (row transition.word).fallback)
    where
      by : (fallback : Option Destination) → option_and_then (led path transition.target entries asker) fallback ≡ option_and_then (led path transition.target others asker) fallback
      by None = refl
      by (Some fallback) = led-order path transition.target entries others asker fallback same

  choice-order : (path : List ℕ) (entries others : List Loaded) (asker : Asker) (mediation : Mediation) (choice : Choice) → DifferInOrder entries others
      → by_choice path entries asker mediation choice ≡ by_choice path others asker mediation choice
  choice-order path entries others asker mediation (DeniedByRule audited) same = refl
  choice-order path entries others asker mediation Missing same = refl
  choice-order path entries others asker mediation (Leads transition audited) same =
      ap (carried mediation audited (row transition.word).scrubs) (led_by-order path entries others asker transition same)

  unconfined-order : (path : List ℕ) (entries others : List Loaded) → DifferInOrder entries others → unconfined_start path entries ≡ unconfined_start path others
  unconfined-order path entries others same =
      ap unconfined (attached-order law path entries others same)

  own-order : (path : List ℕ) (entries others : List Loaded) (asker : Asker) → DifferInOrder entries others → own_start path entries asker ≡ own_start path others asker
  own-order path entries others asker same =
      ap (by_name asker) (attached-order law path entries others same)

  -- and the answer is the same
  pub answer-order : (entries others : List Loaded) (asker : Option Asker) (owned : Bool) (path : List ℕ) → DifferInOrder entries others
      → exec_answer entries asker owned path ≡ exec_answer others asker owned path
  answer-order entries others None owned path same = unconfined-order path entries others same
  answer-order entries others (Some asker) owned path same = by (in_state asker.entry.profile asker.entry.state asker.child)
    where
      by : (confinement : Confinement) → confined_start owned path entries asker confinement ≡ confined_start owned path others asker confinement
      by NotConfined = unconfined-order path entries others same
      by ByName = own-order path entries others asker same
      by (By section mediation) = choice-order path entries others asker mediation (choice section.audit owned path section.rules) same

-- a rule that denies is among what the rules say
denies-among : (flag owned : Bool) (path : List ℕ) (rules : List Rule) (place : ℕ) (rule : Rule) (audited : Bool) → slice_get rules place ≡ Some rule
    → said_of flag owned path rule ≡ Some (Denying audited) → list_any denies (exec_rules flag owned path rules) ≡ true
denies-among flag owned path [] place rule audited at says = absurd (cc)
denies-among flag owned path (first ∷ rules) zero rule audited at says =
    let is : first ≡ rule = cc in
    by (said_of flag owned path first) (ap (said_of flag owned path) is ∙ says)
  where
    by : (said : Option ExecRule) → said ≡ Some (Denying audited)
        → list_any denies (elim said [ None ↦ exec_rules flag owned path rules | Some said ↦ said ∷ exec_rules flag owned path rules ]) ≡ true
    by None e = absurd (cc)
    by (Some (Denying loud)) e = refl
    by (Some (Leading transition rank loud)) e = absurd (cc)
denies-among flag owned path (first ∷ rules) (suc place) rule audited at says = by (said_of flag owned path first) (denies-among flag owned path rules place rule audited at says)
  where
    by : (said : Option ExecRule) → list_any denies (exec_rules flag owned path rules) ≡ true
        → list_any denies (elim said [ None ↦ exec_rules flag owned path rules | Some said ↦ said ∷ exec_rules flag owned path rules ]) ≡ true
    by None rest = rest
    by (Some said) rest = or (denies said) rest
      where
        or : (here : Bool) → list_any denies (exec_rules flag owned path rules) ≡ true → (here || list_any denies (exec_rules flag owned path rules)) ≡ true
        or true rest = refl
        or false rest = rest

-- it wins over all others
pub denied-first : (entries : List Loaded) (asker : Asker) (owned : Bool) (path : List ℕ) (section : Section) (mediation : Mediation)
    → in_state asker.entry.profile asker.entry.state asker.child ≡ By section mediation
    → SomeRuleDenies owned path section
    → (exec_answer entries (Some asker) owned path).verdict.answer ≡ Deny
denied-first entries asker owned path section mediation confined (rule, audited, there, says) =
    let some = denies-among section.audit owned path section.rules there.0 rule audited (at-there section.rules rule there) says in
    rw (confined, choice_of, some) refl

-- the mask of each answer is `x`
missing-masked : (mediation : Mediation) → (missing mediation).verdict.mask.0 ≡ EXEC
missing-masked Enforcing = refl
missing-masked Complaining = refl

choice-masked : (path : List ℕ) (entries : List Loaded) (asker : Asker) (mediation : Mediation) (choice : Choice) → (by_choice path entries asker mediation choice).verdict.mask.0 ≡ EXEC
choice-masked path entries asker mediation (DeniedByRule audited) = refl
choice-masked path entries asker mediation Missing = missing-masked mediation
choice-masked path entries asker mediation (Leads transition audited) = by (led_by path entries asker transition)
  where
    by : (found : Option Started) → (carried mediation audited (row transition.word).scrubs found).verdict.mask.0 ≡ EXEC
    by None = missing-masked mediation
    by (Some to) = refl

unconfined-masked : (path : List ℕ) (entries : List Loaded) → (unconfined_start path entries).verdict.mask.0 ≡ EXEC
unconfined-masked path entries = by (attached path entries)
  where
    by : (found : Option Loaded) → (unconfined found).verdict.mask.0 ≡ EXEC
    by None = refl
    by (Some entry) = refl

own-masked : (path : List ℕ) (entries : List Loaded) (asker : Asker) → (own_start path entries asker).verdict.mask.0 ≡ EXEC
own-masked path entries asker = by (attached path entries)
  where
    by : (found : Option Loaded) → (by_name asker found).verdict.mask.0 ≡ EXEC
    by None = refl
    by (Some entry) = refl

pub answer-masked : (entries : List Loaded) (asker : Option Asker) (owned : Bool) (path : List ℕ) → (exec_answer entries asker owned path).verdict.mask.0 ≡ EXEC
answer-masked entries None owned path = unconfined-masked path entries
answer-masked entries (Some asker) owned path = by (in_state asker.entry.profile asker.entry.state asker.child)
  where
    by : (confinement : Confinement) → (confined_start owned path entries asker confinement).verdict.mask.0 ≡ EXEC
    by NotConfined = unconfined-masked path entries
    by ByName = own-masked path entries asker
    by (By section mediation) = choice-masked path entries asker mediation (choice section.audit owned path section.rules)
