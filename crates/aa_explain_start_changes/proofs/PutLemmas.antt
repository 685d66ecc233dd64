-- Starts that lead elsewhere, added to others.
use Rattle.std.proofs.Common.{◌≡◌, ℕ, Bool, true, false, ◌||◌, List, [], ◌∷◌, ◌++◌, Some, refl, sym, ◌∙◌, ap, subst, inl, inr, arith}
use Rattle.std.specs.Prelude.{Contains, option_and_then}
use Rattle.std.specs.Option.{option_map}
use Rattle.std.proofs.lemmas.Bool.{true≢false}
use Rattle.aa_decide.specs.SeenExec.{seen_to}
use Rattle.aa_explain_reach.proofs.AlikeLemmas.{in-back, in-front}
use Rattle.aa_explain_reach.proofs.PutLemmas.{behind-cases, pairs-behind}
use Rattle.aa_explain_start_changes.specs.Places.{place_of}
use Rattle.aa_explain_start_changes.specs.StartChanges.{Leads, leads_of, leads_told}
use Rattle.aa_explain_start_changes.specs.Starters.{IsLed, Starter, Starters, answer_of, lead_at, lead_of}
use Rattle.aa_explain_start_changes.specs.code.Same.{same_pair}
use Rattle.aa_explain_start_changes.specs.code.Telling.{AddsChange, AddsChanges, IsPut, IsTold, IsToldOf, PutsPair, has_pair, is_absolute, pair_of_change, pair_told}
use Rattle.aa_explain_start_changes.specs.declared.changes.Pair.{Pair}
use Rattle.aa_explain_start_changes.specs.declared.changes.StartChange.{StartChange}
use Rattle.aa_explain_start_changes.specs.declared.starter.Led.{Led}
use Rattle.aa_explain_start_changes.proofs.SameLemmas.{pair-is, pair-self}
use Rattle.aa_glob_nfa.proofs.ListLemmas.{Contains-cons_cases, Contains-first, Contains-later}

module _ (starters : Starters) where
  -- where one of some starts is told to lead to the same, it is found
  found-pair : (pair : Pair) (changes : List StartChange) → has_pair starters pair changes ≡ true → IsTold starters (pair_told starters pair) changes
  found-pair pair [] none = absurd cc
  found-pair pair (one ∷ changes) some =
      by (same_pair (pair_told starters (pair_of_change one)) (pair_told starters pair)) refl some (found-pair pair changes)
    where
      by : (b : Bool) → same_pair (pair_told starters (pair_of_change one)) (pair_told starters pair) ≡ b → (b || has_pair starters pair changes) ≡ true
          → (has_pair starters pair changes ≡ true → IsTold starters (pair_told starters pair) changes)
          → IsTold starters (pair_told starters pair) (one ∷ changes)
      by true is some rest = (one, Contains-first one changes, pair-is (pair_told starters (pair_of_change one)) (pair_told starters pair) is)
      by false is some rest = let found = rest some in (found.0, Contains-later one changes found.0 found.1, found.2)

  -- where none does, each leads to something else
  none-leads : (pair : Pair) (changes : List StartChange) → has_pair starters pair changes ≡ false
      → (change : StartChange) → Contains changes change → leads_told starters change ≡ pair_told starters pair → ⊥
  none-leads pair [] none change at same = omega (arith, at.1)
  none-leads pair (one ∷ changes) none change at same =
      by (same_pair (pair_told starters (pair_of_change one)) (pair_told starters pair)) refl none (none-leads pair changes)
    where
      by : (b : Bool) → same_pair (pair_told starters (pair_of_change one)) (pair_told starters pair) ≡ b → (b || has_pair starters pair changes) ≡ false
          → (has_pair starters pair changes ≡ false → (change : StartChange) → Contains changes change → leads_told starters change ≡ pair_told starters pair → ⊥)
          → ⊥
      by true is none rest = true≢false none
      by false is none rest = elim (Contains-cons_cases one changes change at) [
        | inl here ↦
            let told : leads_told starters one ≡ pair_told starters pair = ap (leads_told starters) here ∙ same in
            true≢false (sym (ap (λ l. same_pair l (pair_told starters pair)) told ∙ pair-self (pair_told starters pair)) ∙ is)
        | inr more ↦ rest none change more same
      ]

  -- a start that leads to the same adds nothing
  pub puts-nothing : (pair : Pair) (owned : Bool) (path : List ℕ) (changes : List StartChange)
      → (pair_told starters pair).before ≡ (pair_told starters pair).after → PutsPair starters pair owned path changes changes
  puts-nothing pair owned path changes same = record {
    kept = λ change at. at;
    fresh = λ change at. inl at;
    told = λ other. absurd (other same);
    apart = λ apart. apart;
  }

  -- nor does one that is told
  pub puts-told : (pair : Pair) (owned : Bool) (path : List ℕ) (changes : List StartChange) → has_pair starters pair changes ≡ true
      → PutsPair starters pair owned path changes changes
  puts-told pair owned path changes some = record {
    kept = λ change at. at;
    fresh = λ change at. inl at;
    told = λ other. found-pair pair changes some;
    apart = λ apart. apart;
  }

  -- any other one is added
  pub puts-new : (pair : Pair) (owned : Bool) (path : List ℕ) (changes new : List StartChange) (change : StartChange) → IsPut starters pair owned path change
      → has_pair starters pair changes ≡ false → new ≡ changes ++ change ∷ [] → PutsPair starters pair owned path changes new
  puts-new pair owned path changes new change put none is = subst (PutsPair starters pair owned path changes) (sym is) (record {
    kept = λ c at. in-front changes (change ∷ []) c at;
    fresh = λ c at. elim (behind-cases changes change c at) [
      | inl old ↦ inl old
      | inr same ↦ inr (subst (IsPut starters pair owned path) (sym same) put)
    ];
    told = λ other. (change, in-back changes (change ∷ []) change (Contains-first change []), told);
    apart = λ apart.
        pairs-behind (λ one later. leads_told starters one ≡ leads_told starters later → ⊥) changes change
        (λ c at same. none-leads pair changes none c at (same ∙ told)) apart;
  })
    where
      told : leads_told starters change ≡ pair_told starters pair
      told = λ i. record { before = lead_at starters.old.slots (put.before i); after = lead_at starters.new.slots (put.after i) }

-- what is told by slots is what is answered, by name
led-lead : (starter : Starter) (owned : Bool) (path : List ℕ) (led : Led) → IsLed starter owned path led → lead_at starter.slots led ≡ lead_of starter owned path
led-lead starter owned path led is = λ i. option_map (λ place. record { place = place; scrub = is.scrub i }) (option_and_then place_of (is.to i))

-- it is told of the path and the owner that it is of
led-own : (starter : Starter) (owned own : Bool) (path other : List ℕ) (led put : Led) → own ≡ owned → other ≡ path → put ≡ led
    → IsLed starter owned path led → IsLed starter own other put
led-own starter owned own path other led put owner paths leds is = record {
  to = ap (λ (l : Led). seen_to starter.slots l.to) leds ∙ is.to ∙ (λ i. Some (answer_of starter (sym owner i) (sym paths i)).to);
  scrub = ap (λ (l : Led). l.scrub) leds ∙ is.scrub ∙ (λ i. (answer_of starter (sym owner i) (sym paths i)).scrub);
}

module _ (starters : Starters) where
  -- the start of the program of a path is added
  pub adds-change : (owned : Bool) (path : List ℕ) (pair : Pair) (old new : List StartChange)
      → IsLed starters.old owned path pair.old → IsLed starters.new owned path pair.new
      → PutsPair starters pair owned path old new → AddsChange starters owned path old new
  adds-change owned path pair old new before after puts = record {
    kept = puts.kept;
    fresh = λ change at. elim (puts.fresh change at) [
      | inl there ↦ inl there
      | inr put ↦ inr (
        put.own_path,
        record {
          before = led-own starters.old owned change.owned path change.path.items pair.old change.old put.owner put.own_path put.before before;
          after = led-own starters.new owned change.owned path change.path.items pair.new change.new put.owner put.own_path put.after after;
          elsewhere = put.elsewhere;
        },
      )
    ];
    told = λ other.
        let there = puts.told (λ same. other (sym (ap (λ (l : Leads). l.before) leads) ∙ same ∙ ap (λ (l : Leads). l.after) leads)) in
        (there.0, there.1, there.2 ∙ leads);
    apart = puts.apart;
  }
    where
      leads : pair_told starters pair ≡ leads_of starters owned path
      leads = λ i. record {
        before = led-lead starters.old owned path pair.old before i;
        after = led-lead starters.new owned path pair.new after i;
      }

  -- a path that isn't absolute adds nothing
  pub adds-nothing : (path : List ℕ) (changes : List StartChange) → is_absolute path ≡ false → AddsChanges starters path changes changes
  adds-nothing path changes other = record {
    kept = λ change at. at;
    fresh = λ change at. inl at;
    told = λ absolute. absurd (true≢false (sym absolute ∙ other));
    apart = λ apart. apart;
  }

  -- those of both owners are added
  pub adds-both : (path : List ℕ) (old middle new : List StartChange) → is_absolute path ≡ true
      → AddsChange starters false path old middle → AddsChange starters true path middle new → AddsChanges starters path old new
  adds-both path old middle new absolute first second = record {
    kept = λ change at. second.kept change (first.kept change at);
    fresh = λ change at. elim (second.fresh change at) [
      | inl there ↦ elim (first.fresh change there) [
        | inl before ↦ inl before
        | inr fresh ↦ inr (fresh.0, fresh.1, absolute)
      ]
      | inr fresh ↦ inr (fresh.0, fresh.1, absolute)
    ];
    told = λ is owned. by owned;
    apart = λ apart. second.apart (first.apart apart);
  }
    where
      by : (owned : Bool) → IsToldOf starters owned path new
      by false other = let there = first.told other in (there.0, second.kept there.0 there.1, there.2)
      by true other = second.told other
