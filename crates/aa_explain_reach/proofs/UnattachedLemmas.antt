-- Profiles that none of the starts by no one in particular leads to are those that no path is attached to.
use Rattle.std.proofs.Common.{◌≡◌, ◌⊎◌, ℕ, zero, suc, ◌+◌, ◌++◌, ◌<◌, ◌≤◌, ◌==◌, Bool, true, false, not, List, [], ◌∷◌, length, map, refl, sym, ◌∙◌, ap, subst, inl, inr, arith}
use Rattle.std.specs.Prelude.{◌≢◌, ◌↔◌, Contains, None, Option, Some, if◌then◌else◌, option_and_then, slice_get, slice_index}
use Rattle.std.specs.List.Sorted.{IsStrictlyIncreasing}
use Rattle.std.specs.Option.{option_map}
use Rattle.std.proofs.Math.Dec.{eqb-suc-zero}
use Rattle.std.proofs.lemmas.Bool.{and_from, and_parts, cases_lt, eq-eqb, not-true, true≢false}
use Rattle.std.proofs.lemmas.List.{get_or-map, length-map}
use Rattle.std.proofs.lemmas.List.Elements.{All-contains, Contains-append_cases, Contains-append_left, Contains-append_right}
use Rattle.std.proofs.lemmas.Option.{get_or_from_slice_get, slice_get_within}
use Rattle.aa_decide.specs.Attachment.{attached, entry_rank}
use Rattle.aa_decide.specs.Exec.{ExecAnswer, Unconfined, Under, started}
use Rattle.aa_decide.specs.SeenExec.{seen_to}
use Rattle.aa_decide_rules.specs.RankLaws.{StandsOut}
use Rattle.aa_decide_rules.specs.StandingOut.{standing_out}
use Rattle.aa_decide_rules.specs.declared.exec_verdict.ExecTo.{ExecTo}
use Rattle.aa_decide_rules.specs.declared.exec_verdict.ExecTo.TheVariants as to
use Rattle.aa_decide_ready.specs.Entries.{Loaded, is_in_force}
use Rattle.aa_decide_ready.specs.Slots.{entry_at, filled}
use Rattle.aa_glob_nfa.proofs.ListLemmas.{Contains-first}
use Rattle.aa_explain_reach.specs.Places.{same_to}
use Rattle.aa_explain_reach.specs.Starts.{AreStartsOf, IsStart, LeadsTo, place_to_go}
use Rattle.aa_explain_reach.specs.Unattached.{AreUnattached, HasAttachments, HoldsUnattached, IsAttachedTo}
use Rattle.aa_explain_reach.specs.code.LedTo.{has_attachments, is_led_to, is_not_led_to, not_led_to_at, not_led_to_from}
use Rattle.aa_explain_reach.specs.declared.start.Start.{Start}
use Rattle.aa_explain_reach.proofs.ListLemmas.{one-only}
use Rattle.aa_explain_reach.proofs.PutLemmas.{found-start, none-goes, some-of, to-seen}
use Rattle.aa_explain_reach.proofs.ShortestLemmas.{held, kind-seen}

-- what is told of ranks: a place stands out exactly where its rank is above 0 and those at all others are lower
abbrev pub RankLaw : Type 0
RankLaw = (ranks : List ℕ) (place : ℕ) → (standing_out ranks ≡ Some place) ↔ StandsOut ranks place

-- an entry stands at two places
record Twice (entries : List Loaded) (entry : Loaded) : Type 0 where
  one : ℕ
  other : ℕ
  before : one < other
  here : slice_get entries one ≡ Some entry
  there : slice_get entries other ≡ Some entry

-- what a slot holds is among the entries
held-among : (slots : List (Option Loaded)) (slot : ℕ) (entry : Loaded) → slice_get slots slot ≡ Some (Some entry) → (place : ℕ) × (slice_get (filled slots) place ≡ Some entry)
held-among [] slot entry at = absurd cc
held-among (None ∷ slots) zero entry at = absurd cc
held-among (None ∷ slots) (suc slot) entry at = held-among slots slot entry at
held-among (Some first ∷ slots) zero entry at = let is : first ≡ entry = cc in (0, ap Some is)
held-among (Some first ∷ slots) (suc slot) entry at = let more = held-among slots slot entry at in (suc more.0, more.1)

-- so what two slots hold stands at two places
held-twice : (slots : List (Option Loaded)) (one other : ℕ) (entry : Loaded) → one < other → slice_get slots one ≡ Some (Some entry)
    → slice_get slots other ≡ Some (Some entry) → Twice (filled slots) entry
held-twice [] one other entry before at there = absurd cc
held-twice (first ∷ slots) one zero entry before at there = absurd (omega (arith, before))
held-twice (None ∷ slots) zero (suc other) entry before at there = absurd cc
held-twice (None ∷ slots) (suc one) (suc other) entry before at there = held-twice slots one other entry (omega (arith, before)) at there
held-twice (Some first ∷ slots) zero (suc other) entry before at there =
    let is : first ≡ entry = cc in
    let more = held-among slots other entry there in
    record { one = 0; other = suc more.0; before = omega arith; here = ap Some is; there = more.1 }
held-twice (Some first ∷ slots) (suc one) (suc other) entry before at there =
    let rest = held-twice slots one other entry (omega (arith, before)) at there in
    record { one = suc rest.one; other = suc rest.other; before = omega (arith, rest.before); here = rest.here; there = rest.there }

-- the rank at a place
rank-at : (path : List ℕ) (entries : List Loaded) (place : ℕ) (entry : Loaded) → slice_get entries place ≡ Some entry
    → slice_index (map (entry_rank path) entries) place ≡ entry_rank path entry
rank-at path entries place entry at =
    get_or-map (entry_rank path) entries place entry 0 (slice_get_within entries place entry at) ∙ ap (entry_rank path) (get_or_from_slice_get entries place entry entry at)

rank-within : (path : List ℕ) (entries : List Loaded) (place : ℕ) (entry : Loaded) → slice_get entries place ≡ Some entry
    → place < length (map (entry_rank path) entries)
rank-within path entries place entry at = subst (λ n. place < n) (sym (length-map entries (entry_rank path))) (slice_get_within entries place entry at)

module _ (law : RankLaw) where
  -- where the rank at a place stands out, the same entry stands at no other
  stands-alone : (path : List ℕ) (entries : List Loaded) (place other : ℕ) (entry : Loaded) → standing_out (map (entry_rank path) entries) ≡ Some place
      → slice_get entries place ≡ Some entry → slice_get entries other ≡ Some entry → other ≢ place → ⊥
  stands-alone path entries place other entry out at there differ =
      let lower = ((law (map (entry_rank path) entries) place).0 out).2 other (rank-within path entries other entry there) differ in
      let high = rank-at path entries place entry at in
      let low = rank-at path entries other entry there in
      omega arith

  -- so no path is attached to an entry that stands at two
  twice-unattached : (path : List ℕ) (entries : List Loaded) (entry : Loaded) → Twice entries entry → attached path entries ≡ Some entry → ⊥
  twice-unattached path entries entry twice is = by (standing_out (map (entry_rank path) entries)) refl is
    where
      by : (found : Option ℕ) → standing_out (map (entry_rank path) entries) ≡ found → option_and_then (slice_get entries) found ≡ Some entry → ⊥
      by None out at = absurd cc
      by (Some place) out at = elim (cases_lt twice.one place) [
        | inl before ↦ stands-alone path entries place twice.one entry out at twice.here (λ same. absurd (omega (arith, before, same)))
        | inr behind ↦ stands-alone path entries place twice.other entry out at twice.there (λ same. absurd (omega (arith, behind, twice.before, same)))
      ]

  -- and where one is, one slot alone holds the entry
  one-slot : (slots : List (Option Loaded)) (path : List ℕ) (entry : Loaded) → attached path (filled slots) ≡ Some entry → (one other : ℕ)
      → slice_get slots one ≡ Some (Some entry) → slice_get slots other ≡ Some (Some entry) → one ≡ other
  one-slot slots path entry is one other at there = elim (cases_lt one other) [
    | inl before ↦ absurd (twice-unattached path (filled slots) entry (held-twice slots one other entry before at there) is)
    | inr behind ↦ elim (cases_lt other one) [
      | inl before ↦ absurd (twice-unattached path (filled slots) entry (held-twice slots other one entry before there at) is)
      | inr same ↦ omega (arith, behind, same)
    ]
  ]

-- who is no one in particular starts a program under the profile that its path is attached to
attached-by : (path : List ℕ) (entries : List Loaded) (owned : Bool) (entry : Loaded) → place_to_go entries None owned path ≡ Under entry None
    → attached path entries ≡ Some entry
attached-by path entries owned entry goes = by (attached path entries) goes
  where
    by : (found : Option Loaded)
        → (elim found as (λ _. ExecAnswer) [ None ↦ started false Unconfined false | Some own ↦ started false (Under own None) false ]).to ≡ Under entry None
        → found ≡ Some entry
    by None goes = absurd cc
    by (Some own) goes = let is : own ≡ entry = cc in ap Some is

attached-goes : (path : List ℕ) (entries : List Loaded) (owned : Bool) (entry : Loaded) → attached path entries ≡ Some entry
    → place_to_go entries None owned path ≡ Under entry None
attached-goes path entries owned entry is =
    ap (λ (found : Option Loaded). (elim found as (λ _. ExecAnswer) [ None ↦ started false Unconfined false | Some own ↦ started false (Under own None) false ]).to) is

-- what is seen as a profile is the one in a slot
profile-seen : (slots : List (Option Loaded)) (code : ExecTo) (entry : Loaded) → seen_to slots code ≡ Some (Under entry None)
    → (slot : ℕ) × (code ≡ to.Profile slot None) × (entry_at slots slot ≡ Some entry)
profile-seen slots (to.Profile slot child) entry seen = by (entry_at slots slot) refl seen
  where
    by : (found : Option Loaded) → entry_at slots slot ≡ found → option_map (λ own. Under own child) found ≡ Some (Under entry None)
        → (place : ℕ) × (to.Profile slot child ≡ to.Profile place None) × (entry_at slots place ≡ Some entry)
    by None is seen = absurd cc
    by (Some own) is seen =
        let same : Under own child ≡ Under entry None = cc in
        let entries : own ≡ entry = cc in
        let children : child ≡ None = cc in
        (slot, ap (to.Profile slot) children, is ∙ ap Some entries)
profile-seen slots code entry seen = absurd (omega (arith, kind-seen slots code (Under entry None) seen))

module _ (law : RankLaw) (slots : List (Option Loaded)) (starts : List Start) (are : AreStartsOf slots None starts) where
  -- to a profile that a start leads to its path is attached
  led-attached : (slot : ℕ) (entry : Loaded) → entry_at slots slot ≡ Some entry → is_led_to starts slot ≡ true → IsAttachedTo (filled slots) entry
  led-attached slot entry at led =
      let found = found-start (to.Profile slot None) starts led in
      let start = found.0 in
      let is = All-contains (IsStart slots None) starts start are.each_start found.1 in
      let seen : Some is.to ≡ Some (Under entry None) =
      sym is.seen ∙ to-seen slots start.to (to.Profile slot None) found.2 ∙ ap (option_map (λ own. Under own None)) at in
      (start.path.items, is.leads.may, attached-by start.path.items (filled slots) start.owned entry (is.leads.there ∙ some-of slots is.to (Under entry None) seen))

  -- to one that none leads to none is
  unled-unattached : (slot : ℕ) (entry : Loaded) → entry_at slots slot ≡ Some entry → is_led_to starts slot ≡ false → IsAttachedTo (filled slots) entry → ⊥
  unled-unattached slot entry at unled some =
      let leads : LeadsTo (filled slots) None false some.0 (Under entry None) =
      record { may = some.1; there = attached-goes some.0 (filled slots) false entry some.2; somewhere = refl } in
      let has = are.each_place some.0 false (Under entry None) leads in
      let seen = profile-seen slots has.start.to entry has.seen in
      let same : seen.0 ≡ slot = one-slot law slots some.0 entry some.2 seen.0 slot (held slots seen.0 entry seen.2) (held slots slot entry at) in
      let is : same_to (to.Profile slot None) (to.Profile slot None) ≡ true = and_from (slot == slot) true (eq-eqb slot slot refl) refl in
      let there : has.start.to ≡ to.Profile slot None = seen.1 ∙ ap (λ n. to.Profile n None) same in
      true≢false (sym is ∙ ap (λ code. same_to code (to.Profile slot None)) (sym there) ∙ none-goes (to.Profile slot None) starts unled has.start has.among)

-- a profile has attachments, or its list of them is empty
some-attachment : (attachments : List (List ℕ)) → not (length attachments == 0) ≡ true → 0 < length attachments
some-attachment [] some = absurd cc
some-attachment (pattern ∷ attachments) some = omega arith

attachment-some : (attachments : List (List ℕ)) → 0 < length attachments → not (length attachments == 0) ≡ true
attachment-some [] some = absurd (omega (arith, some))
attachment-some (pattern ∷ attachments) some = ap not (eqb-suc-zero (length attachments))

has-from : (entry : Loaded) → has_attachments entry ≡ true → HasAttachments entry
has-from entry has =
    let both = and_parts (is_in_force entry.state) (not (length entry.profile.attachments == 0)) has in
    record { in_force = both.0; some = some-attachment entry.profile.attachments both.1 }

has-to : (entry : Loaded) → HasAttachments entry → has_attachments entry ≡ true
has-to entry has =
    and_from (is_in_force entry.state) (not (length entry.profile.attachments == 0)) has.in_force (attachment-some entry.profile.attachments has.some)

-- numbers rise, and the first is no less than one
abbrev Rises : ℕ → List ℕ → Type 0
Rises least [] = Unit {0}
Rises least (x ∷ xs) = (least ≤ x) × Rises (x + 1) xs

-- with a lower least number they rise as well
rises-lower : (least more : ℕ) (xs : List ℕ) → least ≤ more → Rises more xs → Rises least xs
rises-lower least more [] low rise = tt
rises-lower least more (x ∷ xs) low rise = (let first = rise.0 in omega arith, rise.1)

rises-strictly : (least : ℕ) (xs : List ℕ) → Rises least xs → IsStrictlyIncreasing xs
rises-strictly least [] rise k within = absurd (omega (arith, within))
rises-strictly least (x ∷ []) rise k within = absurd (omega (arith, within))
rises-strictly least (x ∷ y ∷ ys) rise zero within = let next = rise.1.0 in omega arith
rises-strictly least (x ∷ y ∷ ys) rise (suc k) within =
    let moved : suc k + 1 ≡ suc (k + 1) = omega arith in
    rw moved (rises-strictly (x + 1) (y ∷ ys) rise.1 k (omega arith))

module _ (starts : List Start) where
  -- what stands among the slots that are told
  record Told (first : ℕ) (slots : List (Option Loaded)) (place : ℕ) : Type 0 where
    slot : ℕ
    entry : Loaded
    is : place ≡ first + slot
    at : slice_get slots slot ≡ Some (Some entry)
    unled : is_not_led_to starts place entry ≡ true

  told-at : (first : ℕ) (slots : List (Option Loaded)) (place : ℕ) → Contains (not_led_to_from starts first slots) place → Told first slots place
  told-at first [] place there = absurd (omega (arith, there.1))
  told-at first (None ∷ slots) place there =
      let rest = told-at (first + 1) slots place there in
      record { slot = suc rest.slot; entry = rest.entry; is = omega (arith, rest.is); at = rest.at; unled = rest.unled }
  told-at first (Some entry ∷ slots) place there =
      elim (Contains-append_cases (not_led_to_at starts first (Some entry)) (not_led_to_from starts (first + 1) slots) place there) [
        | inl here ↦ by (is_not_led_to starts first entry) refl here
        | inr behind ↦
            let rest = told-at (first + 1) slots place behind in
            record { slot = suc rest.slot; entry = rest.entry; is = omega (arith, rest.is); at = rest.at; unled = rest.unled }
      ]
    where
      by : (b : Bool) → is_not_led_to starts first entry ≡ b → Contains (if b then first ∷ [] else []) place → Told first (Some entry ∷ slots) place
      by true is here =
          let same : first ≡ place = one-only first place here in
          record { slot = 0; entry = entry; is = omega (arith, same); at = refl; unled = subst (λ n. is_not_led_to starts n entry ≡ true) same is }
      by false is here = absurd (omega (arith, here.1))

  -- and each that none leads to stands there
  all-told : (first : ℕ) (slots : List (Option Loaded)) (slot place : ℕ) (entry : Loaded) → place ≡ first + slot → slice_get slots slot ≡ Some (Some entry)
      → is_not_led_to starts place entry ≡ true → Contains (not_led_to_from starts first slots) place
  all-told first [] slot place entry is at unled = absurd cc
  all-told first (None ∷ slots) zero place entry is at unled = absurd cc
  all-told first (None ∷ slots) (suc slot) place entry is at unled = all-told (first + 1) slots slot place entry (omega (arith, is)) at unled
  all-told first (Some own ∷ slots) zero place entry is at unled =
      let same : place ≡ first = omega (arith, is) in
      let entries : entry ≡ own = cc in
      let here : is_not_led_to starts first own ≡ true = (λ i. is_not_led_to starts (sym same i) (sym entries i)) ∙ unled in
      Contains-append_left (not_led_to_at starts first (Some own)) (not_led_to_from starts (first + 1) slots) place
      (subst (λ (b : Bool). Contains (if b then first ∷ [] else []) place) (sym here) (subst (Contains (first ∷ [])) (sym same) (Contains-first first [])))
  all-told first (Some own ∷ slots) (suc slot) place entry is at unled =
      Contains-append_right (not_led_to_at starts first (Some own)) (not_led_to_from starts (first + 1) slots) place
      (all-told (first + 1) slots slot place entry (omega (arith, is)) at unled)

  -- they rise
  told-rise : (first : ℕ) (slots : List (Option Loaded)) → Rises first (not_led_to_from starts first slots)
  told-rise first [] = tt
  told-rise first (None ∷ slots) = rises-lower first (first + 1) (not_led_to_from starts (first + 1) slots) (omega arith) (told-rise (first + 1) slots)
  told-rise first (Some entry ∷ slots) = by (is_not_led_to starts first entry) (told-rise (first + 1) slots)
    where
      by : (b : Bool) → Rises (first + 1) (not_led_to_from starts (first + 1) slots)
          → Rises first ((if b then first ∷ [] else []) ++ not_led_to_from starts (first + 1) slots)
      by true rest = (omega arith, rest)
      by false rest = rises-lower first (first + 1) (not_led_to_from starts (first + 1) slots) (omega arith) rest

module _ (law : RankLaw) (slots : List (Option Loaded)) (starts : List Start) (are : AreStartsOf slots None starts) where
  -- a profile that has attachments is told, or some path is attached to it
  told-or : (slot : ℕ) (entry : Loaded) → entry_at slots slot ≡ Some entry → HasAttachments entry
      → Contains (not_led_to_from starts 0 slots) slot ⊎ IsAttachedTo (filled slots) entry
  told-or slot entry at has = by (is_led_to starts slot) refl
    where
      by : (b : Bool) → is_led_to starts slot ≡ b → Contains (not_led_to_from starts 0 slots) slot ⊎ IsAttachedTo (filled slots) entry
      by true led = inr (led-attached law slots starts are slot entry at led)
      by false unled =
          inl (all-told starts 0 slots slot slot entry (omega arith) (held slots slot entry at)
          (and_from (has_attachments entry) (not (is_led_to starts slot)) (has-to entry has) (ap not unled)))

  told-holds : (slot : ℕ) → Contains (not_led_to_from starts 0 slots) slot → HoldsUnattached slots slot
  told-holds slot there =
      let told = told-at starts 0 slots slot there in
      let both = and_parts (has_attachments told.entry) (not (is_led_to starts slot)) told.unled in
      let same : told.slot ≡ slot = omega (arith, told.is) in
      let held_at : slice_get slots slot ≡ Some (Some told.entry) = ap (slice_get slots) (sym same) ∙ told.at in
      let at : entry_at slots slot ≡ Some told.entry =
      ap (λ (found : Option (Option Loaded)). elim found as (λ _. Option Loaded) [ None ↦ None | Some content ↦ content ]) held_at in (
        told.entry,
        at,
        record {
          has = has-from told.entry both.0;
          none = unled-unattached law slots starts are slot told.entry at (not-true (is_led_to starts slot) both.1);
        },
      )

  -- so those that are told are all that no path is attached to
  pub are-unattached : AreUnattached slots (not_led_to_from starts 0 slots)
  are-unattached = record {
    each = told-holds;
    all = λ slot holds. elim (told-or slot holds.0 holds.1 holds.2.has) [ inl there ↦ there | inr some ↦ absurd (holds.2.none some) ];
    others = told-or;
    rise = rises-strictly 0 (not_led_to_from starts 0 slots) (told-rise starts 0 slots);
  }
