-- What one more place changes.
use Rattle.std.proofs.Common.{◌≡◌, ℕ, ◌+◌, ◌<◌, ◌≤◌, ◌==◌, ◌&&◌, true, false, cond, get_or, List, [], ◌∷◌, ◌++◌, length, nat_eq, refl, sym, subst, ap, ◌∙◌, arith, inl, inr, ◌⊎◌, zero, suc}
use Rattle.std.specs.Prelude.{Bool, Option, None, Some, if◌then◌else◌, nat_lt, not, slice_get, slice_set}
use Rattle.std.specs.Map.{lookup}
use Rattle.std.specs.Ordering.{is_eq, nat_cmp}
use Rattle.std.proofs.Math.Path.{fun_ext}
use Rattle.std.proofs.lemmas.Bool.{and_parts, cases_Bool, cond-true, eqb-true, eqb-false, eq-eqb, le-ltb, lt-ltb}
use Rattle.std.proofs.lemmas.List.{length-append}
use Rattle.aa_glob.specs.Tree.{HasOneMore, Ways, is_number, key, next, nothing, nowhere, others_alone, places}
use Rattle.aa_glob.specs.code.Noted.{AreNoted, NotesOthers, has_none_behind}

same-false : (a b : ℕ) → (a ≡ b → ⊥) → (a == b) ≡ false
same-false a b apart = elim (cases_Bool (a == b)) [
  | inl same ↦ absurd (apart (eqb-true a b same))
  | inr other ↦ other
]

-- two numbers are alike in their order where they are the same
order-same : (a b : ℕ) → is_eq (nat_cmp a b) ≡ nat_eq a b
order-same a b = elim (cases_Bool (nat_lt a b)) [
  | inl less ↦ rw less (sym (same-false a b (λ e. let never : true ≡ false = sym less ∙ le-ltb a b (omega (arith, e)) in absurd cc)))
  | inr not_less ↦ rw not_less (elim (cases_Bool (a == b)) [
    | inl same ↦ rw same refl
    | inr other ↦ rw other refl
  ])
]

order-is : (λ (a b : ℕ). is_eq (nat_cmp a b)) ≡ nat_eq
order-is = fun_ext (λ a. fun_ext (λ b. order-same a b))

-- what stands with a number is found by its order
pub found-by-order : (others : List (ℕ × ℕ)) (q : ℕ) → lookup (λ k. is_eq (nat_cmp q k)) others ≡ lookup (nat_eq q) others
found-by-order others q = ap (λ (same : ℕ → ℕ → Bool). lookup (same q) others) order-is

-- and so is what one more changes
pub changed-by-order : (old others : List (ℕ × ℕ)) (at added : ℕ)
    → ((q : ℕ) → lookup (λ k. is_eq (nat_cmp q k)) others ≡ cond (is_eq (nat_cmp at q)) (Some added) (lookup (λ k. is_eq (nat_cmp q k)) old))
    → (q : ℕ) → lookup (nat_eq q) others ≡ cond (nat_eq at q) (Some added) (lookup (nat_eq q) old)
changed-by-order old others at added h =
    subst (λ (same : ℕ → ℕ → Bool). (q : ℕ) → lookup (same q) others ≡ cond (same at q) (Some added) (lookup (same q) old)) order-is h

-- a place and a number are told apart from others as one
keys_apart : (place number p n : ℕ) → number < nowhere → n < nowhere → nat_eq (key place number) (key p n) ≡ (p == place && n == number)
keys_apart place number p n small within = by (cases_Bool (p == place)) (cases_Bool (n == number))
  where
    by : ((p == place) ≡ true) ⊎ ((p == place) ≡ false) → ((n == number) ≡ true) ⊎ ((n == number) ≡ false) → nat_eq (key place number) (key p n) ≡ (p == place && n == number)
    by (inl here) (inl same) = rw here (rw same (eq-eqb (key place number) (key p n) (omega (arith, eqb-true p place here, eqb-true n number same))))
    by (inl here) (inr other) = rw here (rw other (same-false (key place number) (key p n) (λ e. eqb-false n number other (omega (arith, e, small, within)))))
    by (inr other) any = rw other (same-false (key place number) (key p n) (λ e. eqb-false p place other (omega (arith, e, small, within))))

-- what is noted of others alone is no number
unnoted-number : (noted n : ℕ) → others_alone ≤ noted → (noted == n && nat_lt n others_alone) ≡ false
unnoted-number noted n high = elim (cases_Bool (noted == n)) [
  | inl same ↦ rw same (le-ltb n others_alone (omega (arith, high, eqb-true noted n same)))
  | inr apart ↦ rw apart refl
]

-- a place that nothing is noted of yet has no number
noted-push : (on : List ℕ) (p n : ℕ) → is_number n (slice_get (on ++ nothing ∷ []) p) ≡ is_number n (slice_get on p)
noted-push [] zero n = unnoted-number nothing n (omega arith)
noted-push [] (suc p) n = refl
noted-push (a ∷ on) zero n = refl
noted-push (a ∷ on) (suc p) n = noted-push on p n

-- and none is found behind it, as where there is no place
behind-push : (on : List ℕ) (p : ℕ) → has_none_behind (slice_get (on ++ nothing ∷ []) p) ≡ has_none_behind (slice_get on p)
behind-push [] zero = refl
behind-push [] (suc p) = refl
behind-push (a ∷ on) zero = refl
behind-push (a ∷ on) (suc p) = behind-push on p

-- a place behind which others are found from now on
pub noted-others : (on new : List ℕ) (others : List (ℕ × ℕ)) (place : ℕ) → AreNoted on others → NotesOthers (on ++ nothing ∷ []) place new → AreNoted new others
noted-others on new others place are_noted notes p n within free =
    let both = and_parts (has_none_behind (slice_get (on ++ nothing ∷ []) p)) (not (p == place)) (sym (notes.behind p) ∙ free) in
    are_noted p n within (sym (behind-push on p) ∙ both.0)

-- and then are
pub noted-other : (on new : List ℕ) (old others : List (ℕ × ℕ)) (place number at added : ℕ)
    → AreNoted on old → NotesOthers (on ++ nothing ∷ []) place new → at ≡ key place number → number < nowhere
    → ((q : ℕ) → lookup (nat_eq q) others ≡ cond (nat_eq at q) (Some added) (lookup (nat_eq q) old))
    → AreNoted new others
noted-other on new old others place number at added are_noted notes is small noted p n within free =
    let both = and_parts (has_none_behind (slice_get (on ++ nothing ∷ []) p)) (not (p == place)) (sym (notes.behind p) ∙ free) in
    rw (noted (key p n)) (rw is (rw (keys_apart place number p n small within) (elim (cases_Bool (p == place)) [
      | inl here ↦ let never : false ≡ true = sym (ap not here) ∙ both.1 in absurd cc
      | inr other ↦ rw other (are_noted p n within (sym (behind-push on p) ∙ both.0))
    ])))

-- where nothing is found behind a place, the one right behind it isn't either
none-noted : (noted others : Option ℕ) (number place : ℕ) → (if is_number number noted then Some (place + 1) else others) ≡ None → is_number number noted ≡ false
none-noted noted others number place none = elim (cases_Bool (is_number number noted)) [
  | inl there ↦ let found = sym (cond-true (is_number number noted) (Some (place + 1)) others there) ∙ none in absurd cc
  | inr free ↦ free
]

-- one more place that stands elsewhere
pub more-elsewhere : (old : Ways) (on : List ℕ) (others : List (ℕ × ℕ)) (place number at added : ℕ)
    → at ≡ key place number → added ≡ places old → NotesOthers (old.0 ++ nothing ∷ []) place on → number < nowhere → next old place number ≡ None
    → ((q : ℕ) → lookup (nat_eq q) others ≡ cond (nat_eq at q) (Some added) (lookup (nat_eq q) old.1))
    → HasOneMore old place number (on, others)
more-elsewhere old on others place number at added is count notes small free noted p n within =
    rw (notes.noted p n) (rw (noted-push old.0 p n) (rw (noted (key p n)) (rw is (rw count (rw (keys_apart place number p n small within) (by (cases_Bool (p == place)) (cases_Bool (n == number))))))))
  where
    by : ((p == place) ≡ true) ⊎ ((p == place) ≡ false) → ((n == number) ≡ true) ⊎ ((n == number) ≡ false)
        → (if is_number n (slice_get old.0 p) then Some (p + 1) else cond (p == place && n == number) (Some (places old)) (lookup (nat_eq (key p n)) old.1))
        ≡ (if p == place && n == number then Some (places old) else next old p n)
    by (inl here) (inl same) =
        let unnoted : is_number n (slice_get old.0 p) ≡ false =
        rw (eqb-true p place here) (rw (eqb-true n number same) (none-noted (slice_get old.0 place) (lookup (nat_eq (key place number)) old.1) number place free)) in
        rw here (rw same (rw unnoted refl))
    by (inl here) (inr other) = rw here (rw other refl)
    by (inr other) any = rw other refl

-- a place of which a number is noted now
noted-here : (on : List ℕ) (place number n : ℕ) → place < length on → is_number n (slice_get (slice_set on place number) place) ≡ (number == n && nat_lt n others_alone)
noted-here [] place number n within = absurd (omega (arith, within))
noted-here (a ∷ on) zero number n within = refl
noted-here (a ∷ on) (suc place) number n within = noted-here on place number n (omega (arith, within))

-- and the others
noted-there : (on : List ℕ) (place p number n : ℕ) → (p ≡ place → ⊥) → is_number n (slice_get (slice_set on place number) p) ≡ is_number n (slice_get on p)
noted-there [] place p number n apart = refl
noted-there (a ∷ on) zero zero number n apart = absurd (apart refl)
noted-there (a ∷ on) zero (suc p) number n apart = refl
noted-there (a ∷ on) (suc place) zero number n apart = refl
noted-there (a ∷ on) (suc place) (suc p) number n apart = noted-there on place p number n (λ e. apart (ap suc e))

-- where no number is noted of a place, none is
unnoted-none : (on : List ℕ) (place n d : ℕ) → get_or (on ++ nothing ∷ []) place d ≡ nothing → is_number n (slice_get on place) ≡ false
unnoted-none [] place n d h = refl
unnoted-none (a ∷ on) zero n d h = unnoted-number a n (omega (arith, h))
unnoted-none (a ∷ on) (suc place) n d h = unnoted-none on place n d h

-- one more place that stands right behind the last one
pub more-behind : (old : Ways) (on : List ℕ) (place number d : ℕ)
    → on ≡ old.0 ++ nothing ∷ [] → number < others_alone → place + 1 ≡ places old → get_or on place d ≡ nothing
    → HasOneMore old place number (slice_set on place number, old.1)
more-behind old on place number d pushed low last unnoted p n within = rw pushed (elim (cases_Bool (p == place)) [
  | inl here ↦ rw here (rw (eqb-true p place here) (rw (noted-here (old.0 ++ nothing ∷ []) place number n room) (by (cases_Bool (number == n)))))
  | inr other ↦ rw other (rw (noted-there (old.0 ++ nothing ∷ []) place p number n (eqb-false p place other)) (rw (noted-push old.0 p n) refl))
])
  where
    room : place < length (old.0 ++ nothing ∷ [])
    room = omega (arith, last, length-append old.0 (nothing ∷ []))

    free : is_number n (slice_get old.0 place) ≡ false
    free = unnoted-none old.0 place n d (sym (ap (λ noted. get_or noted place d) pushed) ∙ unnoted)

    by : ((number == n) ≡ true) ⊎ ((number == n) ≡ false)
        → (if number == n && nat_lt n others_alone then Some (place + 1) else lookup (nat_eq (key place n)) old.1) ≡ (if n == number then Some (places old) else next old place n)
    by (inl same) = rw same (rw (lt-ltb n others_alone (omega (arith, low, eqb-true number n same))) (rw (eq-eqb n number (sym (eqb-true number n same))) (ap Some last)))
    by (inr apart) = rw apart (rw (same-false n number (λ e. eqb-false number n apart (sym e))) (rw free refl))
