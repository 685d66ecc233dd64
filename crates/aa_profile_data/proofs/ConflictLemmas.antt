-- When two rules conflict, and when none of some do.
use Rattle.std.proofs.Common.{◌≡◌, ◌↔◌, ℕ, zero, suc, ◌<◌, Bool, true, false, not, ◌&&◌, List, [], ◌∷◌, ◌++◌, Ok, Option, None, Some, arith, ap, refl, sym, subst, ◌∙◌, take, append-nil, append_assoc}
use Rattle.std.specs.Prelude.{All, if◌then◌else◌, is_none, slice_get}
use Rattle.std.specs.List.{list_any}
use Rattle.std.specs.Option.{option_map}
use Rattle.std.proofs.lemmas.List.Elements.{All-contains}
use Rattle.aa_glob_pattern.specs.Laws.{OverlapsAreTested}
use Rattle.aa_glob_pattern.specs.Shared.{overlaps}
use Rattle.aa_glob_syntax.specs.Reading.{items_of, reading}
use Rattle.aa_profile_data.proofs.PlaceLemmas.{Contains-from_get}
use Rattle.aa_profile_data.proofs.RankLemmas.{rank-self, same-ranks}
use Rattle.aa_profile_data.proofs.TransitionLemmas.{and-both, and-first, and-second, equal-same, same-equal}
use Rattle.aa_profile_data.specs.ConflictLaws.{HasReadPattern, NoneConflict}
use Rattle.aa_profile_data.specs.Conflicts.{Conflict, Lead, agree, conflict, first_conflict, lead_apart, lead_of, same_transition}
use Rattle.aa_profile_data.specs.Ranks.{same_rank}
use Rattle.aa_profile_data.specs.declared.profile.Rule.{Rule}
use Rattle.aa_profile_data.specs.declared.profile.Rule.TheVariants.{Cap, File, Net, Other}
use Rattle.aa_profile_data.specs.declared.profile.Transition.{Transition}

not-true : (b : Bool) → not b ≡ true → b ≡ false
not-true true is = absurd (cc)
not-true false is = refl

pub true-apart : (b : Bool) → b ≡ false → b ≡ true → ⊥
true-apart b away is = absurd (cc)

pub by-test : (b : Bool) → (b ≡ true → ⊥) → b ≡ false
by-test true never = absurd (never refl)
by-test false never = refl

-- what two leads are that are apart
pub apart-parts : (here there : Lead) → lead_apart here there ≡ true
    → (here.rank ≡ there.rank) × (same_transition here.transition there.transition ≡ false) × (overlaps here.pattern there.pattern ≡ true)
apart-parts here there apart =
    let differ = not (same_transition here.transition there.transition) in
    let overlap = overlaps here.pattern there.pattern in
    let rest = and-second (same_rank here.rank there.rank) (differ && overlap) apart in (
      same-ranks here.rank there.rank (and-first (same_rank here.rank there.rank) (differ && overlap) apart),
      not-true (same_transition here.transition there.transition) (and-first differ overlap rest),
      and-second differ overlap rest,
    )

pub apart-from : (here there : Lead) → here.rank ≡ there.rank → same_transition here.transition there.transition ≡ false → overlaps here.pattern there.pattern ≡ true
    → lead_apart here there ≡ true
apart-from here there alike differ overlap =
    and-both (same_rank here.rank there.rank) (not (same_transition here.transition there.transition) && overlaps here.pattern there.pattern)
    (ap (λ rank. same_rank rank there.rank) alike ∙ rank-self there.rank)
    (and-both (not (same_transition here.transition there.transition)) (overlaps here.pattern there.pattern) (ap not differ) overlap)

-- two rules conflict where their leads are apart
pub conflict-apart : (one other : Rule) (here there : Lead) → lead_of one ≡ Some here → lead_of other ≡ Some there → conflict one other ≡ lead_apart here there
conflict-apart one other here there leads_here leads_there =
    ap (λ (first : Option Lead). elim first [ None ↦ false | Some own ↦ elim (lead_of other) [ None ↦ false | Some further ↦ lead_apart own further ] ]) leads_here
    ∙ ap (λ (second : Option Lead). elim second [ None ↦ false | Some further ↦ lead_apart here further ]) leads_there

pub conflict-leads : (one other : Rule) → conflict one other ≡ true → (here there : Lead) × (lead_of one ≡ Some here) × (lead_of other ≡ Some there) × (lead_apart here there ≡ true)
conflict-leads one other is = by (lead_of one) (lead_of other) refl refl is
  where
    by : (first second : Option Lead) → lead_of one ≡ first → lead_of other ≡ second
        → elim first [ None ↦ false | Some here ↦ elim second [ None ↦ false | Some there ↦ lead_apart here there ] ] ≡ true
        → (here there : Lead) × (lead_of one ≡ Some here) × (lead_of other ≡ Some there) × (lead_apart here there ≡ true)
    by None second a b is = absurd (cc)
    by (Some here) None a b is = absurd (cc)
    by (Some here) (Some there) a b is = (here, there, a, b, is)

-- the pattern of a lead reads where that of its rule does
lead-read : (rule : Rule) (lead : Lead) → HasReadPattern rule → lead_of rule ≡ Some lead → reading lead.pattern ≡ Ok (items_of lead.pattern)
lead-read (File rule) lead read is = by rule.deny rule.exec is
  where
    by : (deny : Bool) (exec : Option Transition)
        → (if deny
        then None
        else option_map (λ transition. record { pattern = rule.pattern; rank = rule.rank; transition = transition }) exec) ≡ Some lead
        → reading lead.pattern ≡ Ok (items_of lead.pattern)
    by true exec is = absurd (cc)
    by false None is = absurd (cc)
    by false (Some transition) is =
        let own : Lead = record { pattern = rule.pattern; rank = rule.rank; transition = transition } in
        let same : own ≡ lead = cc in
        subst (λ (text : List ℕ). reading text ≡ Ok (items_of text)) (ap (λ (l : Lead). l.pattern) same) read
lead-read (Cap rule) lead read is = absurd (cc)
lead-read (Net rule) lead read is = absurd (cc)
lead-read (Other rule) lead read is = absurd (cc)

module _ (law : OverlapsAreTested) where
  pub conflict-tested : (one other : Rule) → HasReadPattern one → HasReadPattern other → (conflict one other ≡ true ↔ Conflict one other)
  conflict-tested one other read_one read_other = (to, from)
    where
      to : conflict one other ≡ true → Conflict one other
      to is =
          let (here, there, leads_here, leads_there, apart) = conflict-leads one other is in
          let (alike, differ, overlap) = apart-parts here there apart in
          record {
            here = here;
            there = there;
            leads_here = leads_here;
            leads_there = leads_there;
            alike = alike;
            differ = λ equal. true-apart (same_transition here.transition there.transition) differ (equal-same here.transition there.transition equal);
            overlap = (law here.pattern there.pattern (lead-read one here read_one leads_here) (lead-read other there read_other leads_there)).0 overlap;
          }

      from : Conflict one other → conflict one other ≡ true
      from h =
          conflict-apart one other h.here h.there h.leads_here h.leads_there
          ∙ apart-from h.here h.there h.alike
          (by-test (same_transition (h.here).transition (h.there).transition) (λ same. h.differ (same-equal (h.here).transition (h.there).transition same)))
          ((law (h.here).pattern (h.there).pattern (lead-read one h.here read_one h.leads_here) (lead-read other h.there read_other h.leads_there)).1 h.overlap)

-- the rule at a place conflicts with one of some that stand before the others, or with an earlier one
abbrev pub Meets : List Rule → List Rule → ℕ → Type 0
Meets before rules place = (rule : Rule) × (slice_get rules place ≡ Some rule) × (list_any (conflict rule) (before ++ take place rules) ≡ true)

module _ (before : List Rule) (rule : Rule) (rules : List Rule) where
  later : (k : ℕ) → before ++ take (suc k) (rule ∷ rules) ≡ (before ++ rule ∷ []) ++ take k rules
  later k = sym (append_assoc before (rule ∷ []) (take k rules))

  pub meets-on : (k : ℕ) → Meets (before ++ rule ∷ []) rules k → Meets before (rule ∷ rules) (suc k)
  meets-on k (own, at, meets) = (own, at, ap (list_any (conflict own)) (later k) ∙ meets)

  pub meets-back : (k : ℕ) → Meets before (rule ∷ rules) (suc k) → Meets (before ++ rule ∷ []) rules k
  meets-back k (own, at, meets) = (own, at, ap (list_any (conflict own)) (sym (later k)) ∙ meets)

  pub meets-here : Meets before (rule ∷ rules) 0 → list_any (conflict rule) before ≡ true
  meets-here (own, at, meets) =
      let same : rule ≡ own = cc in
      ap (λ r. list_any (conflict r) before) same ∙ ap (list_any (conflict own)) (sym (append-nil before)) ∙ meets

  pub meets-first : list_any (conflict rule) before ≡ true → Meets before (rule ∷ rules) 0
  meets-first is = (rule, refl, ap (list_any (conflict rule)) (append-nil before) ∙ is)

-- where none is the first, none meets one
none-meets : (before rules : List Rule) → first_conflict before rules ≡ None → (k : ℕ) → Meets before rules k → ⊥
none-meets before [] none k h = let is = h.1 in absurd (cc)
none-meets before (rule ∷ rules) none k h =
    by (list_any (conflict rule) before) refl (first_conflict (before ++ rule ∷ []) rules) none (none-meets (before ++ rule ∷ []) rules) k h
  where
    by : (b : Bool) → list_any (conflict rule) before ≡ b → (found : Option ℕ) → (if b then Some 0 else option_map suc found) ≡ None
        → (found ≡ None → (k : ℕ) → Meets (before ++ rule ∷ []) rules k → ⊥) → (k : ℕ) → Meets before (rule ∷ rules) k → ⊥
    by true e found none rest k h = absurd (cc)
    by false e (Some j) none rest k h = absurd (cc)
    by false e None none rest zero h = true-apart (list_any (conflict rule) before) e (meets-here before rule rules h)
    by false e None none rest (suc k) h = rest refl k (meets-back before rule rules k h)

none-first : (before rules : List Rule) → ((k : ℕ) → Meets before rules k → ⊥) → first_conflict before rules ≡ None
none-first before [] never = refl
none-first before (rule ∷ rules) never =
    let away = by-test (list_any (conflict rule) before) (λ is. never 0 (meets-first before rule rules is)) in
    let rest = none-first (before ++ rule ∷ []) rules (λ k h. never (suc k) (meets-on before rule rules k h)) in
    ap (λ (b : Bool). if b then Some 0 else option_map suc (first_conflict (before ++ rule ∷ []) rules)) away ∙ ap (option_map suc) rest

-- what passes a test among the first of some
pub any-earlier : {X : Type 0} (test : X → Bool) (xs : List X) (k : ℕ) → list_any test (take k xs) ≡ true → (j : ℕ) × (x : X) × (j < k) × (slice_get xs j ≡ Some x) × (test x ≡ true)
any-earlier test [] zero is = absurd (cc)
any-earlier test [] (suc k) is = absurd (cc)
any-earlier test (x ∷ xs) zero is = absurd (cc)
any-earlier test (x ∷ xs) (suc k) is = by (test x) refl is (any-earlier test xs k)
  where
    by : (b : Bool) → test x ≡ b → list_any test (take (suc k) (x ∷ xs)) ≡ true
        → (list_any test (take k xs) ≡ true → (j : ℕ) × (y : _) × (j < k) × (slice_get xs j ≡ Some y) × (test y ≡ true))
        → (j : ℕ) × (y : _) × (j < suc k) × (slice_get (x ∷ xs) j ≡ Some y) × (test y ≡ true)
    by true e is rest = (0, x, omega arith, refl, e)
    by false e is rest = let (j, y, less, at, passes) = rest (rw e at is) in (suc j, y, omega arith, at, passes)

pub earlier-any : {X : Type 0} (test : X → Bool) (xs : List X) (j k : ℕ) (x : X) → j < k → slice_get xs j ≡ Some x → test x ≡ true → list_any test (take k xs) ≡ true
earlier-any test [] j k x less at passes = absurd (cc)
earlier-any test (y ∷ xs) j zero x less at passes = absurd (omega arith)
earlier-any test (y ∷ xs) zero (suc k) x less at passes = let same : y ≡ x = cc in let here : test y ≡ true = rw same passes in rw here refl
earlier-any test (y ∷ xs) (suc j) (suc k) x less at passes = by (test y) refl (earlier-any test xs j k x (omega arith) at passes)
  where
    by : (b : Bool) → test y ≡ b → list_any test (take k xs) ≡ true → list_any test (take (suc k) (y ∷ xs)) ≡ true
    by true e rest = rw e refl
    by false e rest = rw e rest

none-true : (found : Option ℕ) → is_none found ≡ true → found ≡ None
none-true None is = refl
none-true (Some k) is = absurd (cc)

-- rules agree exactly where none conflicts with an earlier one
pub agree-none : OverlapsAreTested → (rules : List Rule) → All HasReadPattern rules → (agree rules ≡ true ↔ NoneConflict rules)
agree-none law rules read = (to, from)
  where
    read-at : (k : ℕ) (rule : Rule) → slice_get rules k ≡ Some rule → HasReadPattern rule
    read-at k rule at = All-contains HasReadPattern rules rule read (Contains-from_get rules k rule at)

    to : agree rules ≡ true → NoneConflict rules
    to is first second one other less here there h =
        none-meets [] rules (none-true (first_conflict [] rules) is) second (
          other,
          there,
          earlier-any (conflict other) rules first second one less here ((conflict-tested law other one (read-at second other there) (read-at first one here)).1 h),
        )

    from : NoneConflict rules → agree rules ≡ true
    from none = ap is_none (none-first [] rules (λ k h.
        let (first, one, less, here, is) = any-earlier (conflict h.0) rules k h.2 in
        none first k one h.0 less here h.1 ((conflict-tested law h.0 one (read-at k h.0 h.1) (read-at first one here)).0 is)))
