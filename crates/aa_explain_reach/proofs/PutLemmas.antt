-- Starts that are added to others.
use Rattle.std.proofs.Common.{◌≡◌, ◌⊎◌, ℕ, zero, suc, ◌<◌, Bool, true, false, ◌||◌, ◌==◌, List, [], ◌∷◌, ◌++◌, length, refl, sym, ◌∙◌, ap, subst, inl, inr, arith}
use Rattle.std.specs.Prelude.{AllPairs, Contains, None, Option, Some, slice_index_or}
use Rattle.std.specs.Option.{option_map}
use Rattle.std.specs.Str.{bytes_eq}
use Rattle.std.proofs.lemmas.Bool.{and_parts, eqb-true}
use Rattle.std.proofs.lemmas.List.Elements.{Contains-get_or}
use Rattle.std.proofs.lemmas.Slice.Eq.{bytes_eq-Decides}
use Rattle.aa_decide.specs.Exec.{Asker, Base, ExecAnswer, Nowhere, Null, Stacked, Started, Unconfined, Under, exec_answer}
use Rattle.aa_decide.specs.SeenExec.{IsAnswer, seen_base, seen_stacked, seen_to}
use Rattle.aa_decide_rules.specs.declared.exec_verdict.ExecTo.{ExecTo}
use Rattle.aa_decide_rules.specs.declared.exec_verdict.ExecTo.TheVariants as to
use Rattle.aa_decide_rules.specs.declared.exec_verdict.ExecVerdict.{ExecVerdict}
use Rattle.aa_decide_rules.specs.declared.exec_verdict.StackBase.{StackBase}
use Rattle.aa_decide_rules.specs.declared.exec_verdict.StackBase.TheVariants as base
use Rattle.aa_decide_ready.specs.Entries.{Loaded}
use Rattle.aa_decide_ready.specs.Slots.{entry_at, filled}
use Rattle.aa_glob_nfa.proofs.ListLemmas.{Contains-cons_cases, Contains-first, Contains-later}
use Rattle.aa_profile_data.specs.Stacks.{parts_of}
use Rattle.aa_explain_reach.specs.Places.{is_somewhere, leads_somewhere, same_base, same_child, same_stand, same_to}
use Rattle.aa_explain_reach.specs.Starts.{place_to_go}
use Rattle.aa_explain_reach.specs.code.Telling.{AddsStart, AddsStarts, IsPut, IsTold, PutsPlace, has_start, is_absolute}
use Rattle.aa_explain_reach.specs.declared.start.Start.{Start}
use Rattle.aa_explain_reach.proofs.AlikeLemmas.{in-back, in-front}

-- what was put behind others is among them, and all else was there
pub behind-cases : {X : Type 0} (xs : List X) (y x : X) → Contains (xs ++ y ∷ []) x → Contains xs x ⊎ (x ≡ y)
behind-cases [] y x at = elim (Contains-cons_cases y [] x at) [
  | inl same ↦ inr (sym same)
  | inr more ↦ absurd (omega (arith, more.1))
]
behind-cases (z ∷ xs) y x at = elim (Contains-cons_cases z (xs ++ y ∷ []) x at) [
  | inl same ↦ inl (subst (Contains (z ∷ xs)) same (Contains-first z xs))
  | inr more ↦ elim (behind-cases xs y x more) [ inl old ↦ inl (Contains-later z xs x old) | inr new ↦ inr new ]
]

-- the same child or hat
child-is : (one other : Option ℕ) → same_child one other ≡ true → one ≡ other
child-is None None same = refl
child-is (Some place) (Some other) same = ap Some (eqb-true place other same)
child-is None (Some other) same = absurd cc
child-is (Some place) None same = absurd cc

module _ (slots : List (Option Loaded)) where
  -- stacks on the same are seen on the same
  base-seen : (one other : StackBase) → same_base one other ≡ true → seen_base slots one ≡ seen_base slots other
  base-seen (base.Profile slot child) (base.Profile other place) same =
      let both = and_parts (slot == other) (same_child child place) same in
      let slots_are = eqb-true slot other both.0 in
      let children_are = child-is child place both.1 in
      λ i. seen_base slots (base.Profile (slots_are i) (children_are i))
  base-seen base.Unconfined base.Unconfined same = refl
  base-seen (base.Profile slot child) base.Unconfined same = absurd cc
  base-seen base.Unconfined (base.Profile other place) same = absurd cc

  stand-seen : (members : List (List ℕ)) (one other : Option StackBase) → same_stand one other ≡ true → seen_stacked slots members one ≡ seen_stacked slots members other
  stand-seen members None None same = refl
  stand-seen members (Some base) (Some other) same = ap (option_map (λ base. Stacked (Some base) members)) (base-seen base other same)
  stand-seen members None (Some other) same = absurd cc
  stand-seen members (Some base) None same = absurd cc

  -- the same place to go is seen as the same
  pub to-seen : (one other : ExecTo) → same_to one other ≡ true → seen_to slots one ≡ seen_to slots other
  to-seen (to.Profile slot child) (to.Profile other place) same =
      let both = and_parts (slot == other) (same_child child place) same in
      let slots_are = eqb-true slot other both.0 in
      let children_are = child-is child place both.1 in
      λ i. seen_to slots (to.Profile (slots_are i) (children_are i))
  to-seen to.Unconfined to.Unconfined same = refl
  to-seen (to.Stack base members) (to.Stack other names) same =
      let both = and_parts (same_stand base other) (bytes_eq members.now names.now) same in
      let text = (bytes_eq-Decides members.now names.now).0 both.1 in
      stand-seen (parts_of members.now) base other both.0 ∙ ap (λ t. seen_stacked slots (parts_of t) other) text
  to-seen to.Null to.Null same = refl
  to-seen to.Nowhere to.Nowhere same = refl
  to-seen _ _ same = absurd cc

  pub some-of : {A : Type 0} (one other : A) → Some one ≡ Some other → one ≡ other
  some-of one other same = cc

  -- what leads somewhere is seen to do so
  pub somewhere-seen : (code : ExecTo) (started : Started) → seen_to slots code ≡ Some started → leads_somewhere code ≡ is_somewhere started
  somewhere-seen (to.Profile slot child) started seen = by (entry_at slots slot) seen
    where
      by : (found : Option Loaded) → option_map (λ entry. Under entry child) found ≡ Some started → true ≡ is_somewhere started
      by None seen = absurd cc
      by (Some entry) seen = ap is_somewhere (some-of (Under entry child) started seen)
  somewhere-seen to.Unconfined started seen = ap is_somewhere (some-of Unconfined started seen)
  somewhere-seen (to.Stack None members) started seen = ap is_somewhere (some-of (Stacked None (parts_of members.now)) started seen)
  somewhere-seen (to.Stack (Some base) members) started seen = by (seen_base slots base) seen
    where
      by : (found : Option Base) → option_map (λ base. Stacked (Some base) (parts_of members.now)) found ≡ Some started → true ≡ is_somewhere started
      by None seen = absurd cc
      by (Some base) seen = ap is_somewhere (some-of (Stacked (Some base) (parts_of members.now)) started seen)
  somewhere-seen to.Null started seen = ap is_somewhere (some-of Null started seen)
  somewhere-seen to.Nowhere started seen = ap is_somewhere (some-of Nowhere started seen)

  -- the code's answer goes to the place that is meant
  pub answer-seen : (found : ExecVerdict) (answer : ExecAnswer) → IsAnswer slots found answer → seen_to slots found.to ≡ Some answer.to
  answer-seen found answer is = by (seen_to slots found.to) is
    where
      by : (place : Option Started) → option_map (λ to. record { verdict = found.verdict; to = to; scrub = found.scrub }) place ≡ Some answer → place ≡ Some answer.to
      by None is = absurd cc
      by (Some place) is =
          ap (λ (a : ExecAnswer). Some a.to) (some-of (record { verdict = found.verdict; to = place; scrub = found.scrub }) answer is)

-- where one of some starts goes to a place, it is found
pub found-start : (to : ExecTo) (starts : List Start) → has_start to starts ≡ true → (start : Start) × Contains starts start × (same_to start.to to ≡ true)
found-start to [] none = absurd cc
found-start to (one ∷ starts) some = by (same_to one.to to) refl some (found-start to starts)
  where
    by : (b : Bool) → same_to one.to to ≡ b → (b || has_start to starts) ≡ true
        → (has_start to starts ≡ true → (start : Start) × Contains starts start × (same_to start.to to ≡ true))
        → (start : Start) × Contains (one ∷ starts) start × (same_to start.to to ≡ true)
    by true is some rest = (one, Contains-first one starts, is)
    by false is some rest = let found = rest some in (found.0, Contains-later one starts found.0 found.1, found.2)

-- where none does, each goes to another
pub none-goes : (to : ExecTo) (starts : List Start) → has_start to starts ≡ false → (start : Start) → Contains starts start → same_to start.to to ≡ false
none-goes to [] none start at = absurd (omega (arith, at.1))
none-goes to (one ∷ starts) none start at = by (same_to one.to to) refl none (none-goes to starts)
  where
    by : (b : Bool) → same_to one.to to ≡ b → (b || has_start to starts) ≡ false
        → (has_start to starts ≡ false → (start : Start) → Contains starts start → same_to start.to to ≡ false)
        → same_to start.to to ≡ false
    by true is none rest = absurd cc
    by false is none rest = elim (Contains-cons_cases one starts start at) [
      | inl same ↦ ap (λ (s : Start). same_to s.to to) (sym same) ∙ is
      | inr more ↦ rest none start more
    ]

-- of pairs that stand so, the first with each other, and all others
pub pairs-first : {X : Type 0} (R : X → X → Type 0) (x : X) (xs : List X) → AllPairs R (x ∷ xs) → (y : X) → Contains xs y → R x y
pairs-first R x xs apart y at = subst (R x) at.2 (apart 0 (suc at.0) y (omega arith) (omega (arith, at.1)))

pub pairs-rest : {X : Type 0} (R : X → X → Type 0) (x : X) (xs : List X) → AllPairs R (x ∷ xs) → AllPairs R xs
pairs-rest R x xs apart = λ i j d before within. apart (suc i) (suc j) d (omega (arith, before)) (omega (arith, within))

-- so a start that is put behind them stands apart from all
pairs-cons : {X : Type 0} (R : X → X → Type 0) (x : X) (xs : List X) → ((y : X) → Contains xs y → R x y) → AllPairs R xs → AllPairs R (x ∷ xs)
pairs-cons {X} R x xs first rest = λ i j d before within. by i j d before within
  where
    by : (i j : ℕ) (d : X) → i < j → j < length (x ∷ xs) → R (slice_index_or (x ∷ xs) i d) (slice_index_or (x ∷ xs) j d)
    by i zero d before within = absurd (omega (arith, before))
    by zero (suc j) d before within =
        let low : j < length xs = omega (arith, within) in
        first (slice_index_or xs j d) (Contains-get_or xs j d low)
    by (suc i) (suc j) d before within = rest i j d (omega (arith, before)) (omega (arith, within))

pub pairs-behind : {X : Type 0} (R : X → X → Type 0) (xs : List X) (y : X) → ((x : X) → Contains xs x → R x y) → AllPairs R xs → AllPairs R (xs ++ y ∷ [])
pairs-behind R [] y each apart = λ i j d before within. absurd (omega (arith, before, within))
pairs-behind R (x ∷ xs) y each apart =
    pairs-cons R x (xs ++ y ∷ [])
    (λ z at. elim (behind-cases xs y z at) [
      | inl old ↦ pairs-first R x xs apart z old
      | inr new ↦ subst (R x) (sym new) (each x (Contains-first x xs))
    ])
    (pairs-behind R xs y (λ z at. each z (Contains-later x xs z at)) (pairs-rest R x xs apart))

-- a place that isn't gone to adds nothing
pub puts-nothing : (to : ExecTo) (owned : Bool) (path : List ℕ) (starts : List Start) → leads_somewhere to ≡ false → PutsPlace to owned path starts starts
puts-nothing to owned path starts nowhere = record {
  kept = λ start at. at;
  fresh = λ start at. inl at;
  told = λ somewhere. absurd (no (sym somewhere ∙ nowhere));
  apart = λ apart. apart;
}
  where
    no : true ≡ false → ⊥
    no h = absurd cc

-- nor does one that is told
pub puts-told : (to : ExecTo) (owned : Bool) (path : List ℕ) (starts : List Start) → has_start to starts ≡ true → PutsPlace to owned path starts starts
puts-told to owned path starts some = record {
  kept = λ start at. at;
  fresh = λ start at. inl at;
  told = λ somewhere.
      let found = found-start to starts some in
      (found.0, found.1, λ slots. to-seen slots found.0.to to found.2);
  apart = λ apart. apart;
}

-- any other one is added
pub puts-new : (to : ExecTo) (owned : Bool) (path : List ℕ) (starts new : List Start) (start : Start) → IsPut to owned path start
    → has_start to starts ≡ false → new ≡ starts ++ start ∷ [] → PutsPlace to owned path starts new
puts-new to owned path starts new start put none is = subst (PutsPlace to owned path starts) (sym is) (record {
  kept = λ s at. in-front starts (start ∷ []) s at;
  fresh = λ s at. elim (behind-cases starts start s at) [
    | inl old ↦ inl old
    | inr same ↦ inr (subst (IsPut to owned path) (sym same) put)
  ];
  told = λ somewhere. (start, in-back starts (start ∷ []) start (Contains-first start []), λ slots. ap (seen_to slots) put.place);
  apart = λ apart.
      pairs-behind (λ one later. same_to one.to later.to ≡ false) starts start
      (λ s at. ap (same_to s.to) put.place ∙ none-goes to starts none s at) apart;
})

module _ (slots : List (Option Loaded)) (asker : Option Asker) where
  -- the start of the program of a path is added
  pub adds-start : (owned : Bool) (path : List ℕ) (found : ExecVerdict) (old new : List Start)
      → IsAnswer slots found (exec_answer (filled slots) asker owned path) → PutsPlace found.to owned path old new → AddsStart slots asker owned path old new
  adds-start owned path found old new is puts =
      let place = place_to_go (filled slots) asker owned path in
      let seen : seen_to slots found.to ≡ Some place = answer-seen slots found (exec_answer (filled slots) asker owned path) is in
      let somewhere : leads_somewhere found.to ≡ is_somewhere place = somewhere-seen slots found.to place seen in
      record {
        kept = puts.kept;
        fresh = λ start at. elim (puts.fresh start at) [
          | inl there ↦ inl there
          | inr put ↦
              let own : place_to_go (filled slots) asker start.owned start.path.items ≡ place =
              λ i. place_to_go (filled slots) asker (put.owner i) (put.own_path i) in
              inr (
                put.own_path,
                (
                  ap (seen_to slots) put.place ∙ seen ∙ ap Some (sym own),
                  ap is_somewhere own ∙ sym somewhere ∙ put.somewhere,
                ),
              )
        ];
        told = λ goes.
            let there = puts.told (somewhere ∙ goes) in
            (there.0, there.1, there.2 slots ∙ seen);
        apart = puts.apart;
      }

  -- a path that isn't absolute adds nothing
  pub adds-nothing : (path : List ℕ) (starts : List Start) → is_absolute path ≡ false → AddsStarts slots asker path starts starts
  adds-nothing path starts other = record {
    kept = λ start at. at;
    fresh = λ start at. inl at;
    told = λ absolute. absurd (no (sym absolute ∙ other));
    apart = λ apart. apart;
  }
    where
      no : true ≡ false → ⊥
      no h = absurd cc

  -- those of both owners are added
  pub adds-both : (path : List ℕ) (old middle new : List Start) → is_absolute path ≡ true
      → AddsStart slots asker false path old middle → AddsStart slots asker true path middle new → AddsStarts slots asker path old new
  adds-both path old middle new absolute first second = record {
    kept = λ start at. second.kept start (first.kept start at);
    fresh = λ start at. elim (second.fresh start at) [
      | inl there ↦ elim (first.fresh start there) [
        | inl before ↦ inl before
        | inr fresh ↦ inr (fresh.0, fresh.1, absolute)
      ]
      | inr fresh ↦ inr (fresh.0, fresh.1, absolute)
    ];
    told = λ is owned. by owned;
    apart = λ apart. second.apart (first.apart apart);
  }
    where
      by : (owned : Bool) → IsTold slots asker owned path new
      by false goes = let there = first.told goes in (there.0, second.kept there.0 there.1, there.2)
      by true goes = second.told goes
