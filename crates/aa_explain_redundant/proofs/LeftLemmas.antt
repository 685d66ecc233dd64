-- What is left of rules, and which of them match.
use Rattle.std.proofs.Common.{◌≡◌, ◌+◌, ℕ, Bool, true, false, ◌&&◌, ◌||◌, List, [], ◌∷◌, ◌++◌, refl, sym, ◌∙◌, ap, subst, inl, inr, arith, nat_eq}
use Rattle.std.proofs.lemmas.Bool.{eq-eqb, eqb-true, true≢false}
use Rattle.std.proofs.lemmas.List.Folds.{list_any-append}
use Rattle.std.specs.List.{filter, list_any}
use Rattle.std.specs.Prelude.{Contains, None, Option, Some}
use Rattle.aa_glob_nfa.proofs.ListLemmas.{Contains-cons_cases, Contains-first, Contains-later}
use Rattle.aa_profile_data.specs.Matching.{is_matching}
use Rattle.aa_profile_data.specs.declared.profile.Rule.{Rule}
use Rattle.aa_explain_redundant.specs.Left.{Numbered, is_among, is_file, is_made_of, left_of, matching, numbered_from, rules_among, speaks, stays}

-- what stays of those that match are those that match of what stays
pub matching-left : (gone path : List ℕ) (rules : List Numbered) → left_of gone (matching path rules) ≡ filter (is_matching path) (left_of gone rules)
matching-left gone path [] = refl
matching-left gone path (one ∷ rules) = by (is_matching path one.rule) (stays gone one) refl refl (matching-left gone path rules)
  where
    by : (m s : Bool) → is_matching path one.rule ≡ m → stays gone one ≡ s
        → left_of gone (matching path rules) ≡ filter (is_matching path) (left_of gone rules)
        → left_of gone (matching path (one ∷ rules)) ≡ filter (is_matching path) (left_of gone (one ∷ rules))
    by true true m s later = rw m (rw s (rw m (ap (λ l. one.rule ∷ l) later)))
    by true false m s later = rw m (rw s later)
    by false true m s later = rw m (rw s (rw m later))
    by false false m s later = rw m (rw s later)

-- the rules, without their numbers
pub rules-numbered : (place : ℕ) (written : List ℕ) (rules : List Rule) → rules_among (numbered_from place written rules) ≡ rules
rules-numbered place written [] = refl
rules-numbered place written (rule ∷ rules) = ap (λ l. rule ∷ l) (rules-numbered (place + 1) written rules)

-- where rules are taken away alike, the same is left
pub same-left : (gone other : List ℕ) (rules : List Numbered) → ((one : Numbered) → Contains rules one → is_made_of gone one ≡ is_made_of other one)
    → left_of gone rules ≡ left_of other rules
same-left gone other [] alike = refl
same-left gone other (one ∷ rules) alike =
    by (is_made_of other one) refl (alike one (Contains-first one rules)) (same-left gone other rules (λ r at. alike r (Contains-later one rules r at)))
  where
    by : (b : Bool) → is_made_of other one ≡ b → is_made_of gone one ≡ is_made_of other one → left_of gone rules ≡ left_of other rules
        → left_of gone (one ∷ rules) ≡ left_of other (one ∷ rules)
    by true is same later = rw is (rw (same ∙ is) later)
    by false is same later = rw is (rw (same ∙ is) (ap (λ l. one.rule ∷ l) later))

-- nothing is made of none
pub made-none : (one : Numbered) → is_made_of [] one ≡ false
made-none one = by (is_file one.rule) one.written
  where
    by : (b : Bool) (written : Option ℕ) → (b && is_among [] written) ≡ false
    by false written = refl
    by true None = refl
    by true (Some number) = refl

-- so all are left
pub left-none : (rules : List Numbered) → left_of [] rules ≡ rules_among rules
left-none [] = refl
left-none (one ∷ rules) = rw (made-none one) (ap (λ l. one.rule ∷ l) (left-none rules))

-- made of some of more
pub made-more : (gone more : List ℕ) (one : Numbered) → is_made_of (gone ++ more) one ≡ (is_made_of gone one || is_made_of more one)
made-more gone more one = by (is_file one.rule) one.written
  where
    by : (b : Bool) (written : Option ℕ) → (b && is_among (gone ++ more) written) ≡ ((b && is_among gone written) || (b && is_among more written))
    by false written = refl
    by true None = refl
    by true (Some number) = list_any-append (λ one. nat_eq one number) gone more

-- where nothing passes a test, each doesn't; and the other way round
pub none-any : {X : Type 0} (test : X → Bool) (xs : List X) → list_any test xs ≡ false → (x : X) → Contains xs x → test x ≡ false
none-any test [] none x at = absurd (omega (arith, at.1))
none-any {X} test (first ∷ xs) none x at = by (test first) refl none (none-any test xs)
  where
    by : (b : Bool) → test first ≡ b → (b || list_any test xs) ≡ false → (list_any test xs ≡ false → (x : X) → Contains xs x → test x ≡ false) → test x ≡ false
    by true is none later = absurd cc
    by false is none later = elim (Contains-cons_cases first xs x at) [
      | inl same ↦ ap test (sym same) ∙ is
      | inr more ↦ later none x more
    ]

pub any-none : {X : Type 0} (test : X → Bool) (xs : List X) → ((x : X) → Contains xs x → test x ≡ false) → list_any test xs ≡ false
any-none test [] none = refl
any-none test (x ∷ xs) none = ap (λ b. b || list_any test xs) (none x (Contains-first x xs)) ∙ any-none test xs (λ y at. none y (Contains-later x xs y at))

-- where no rule of a written rule is among some, nothing more is taken away of them with it
pub unspoken : (gone : List ℕ) (number : ℕ) (rules : List Numbered) → speaks number rules ≡ false → left_of (gone ++ number ∷ []) rules ≡ left_of gone rules
unspoken gone number rules none =
    same-left (gone ++ number ∷ []) gone rules (λ one at.
    made-more gone (number ∷ []) one ∙ ap (λ b. is_made_of gone one || b) (none-any (is_made_of (number ∷ [])) rules none one at) ∙ or-false (is_made_of gone one))
  where
    or-false : (b : Bool) → (b || false) ≡ b
    or-false true = refl
    or-false false = refl

-- a number that is found among some is there, and the other way round
pub among-there : (numbers : List ℕ) (number : ℕ) → list_any (λ one. nat_eq one number) numbers ≡ true → Contains numbers number
among-there [] number some = absurd cc
among-there (first ∷ numbers) number some = of (nat_eq first number) refl some (among-there numbers number)
  where
    of : (b : Bool) → nat_eq first number ≡ b → (b || list_any (λ one. nat_eq one number) numbers) ≡ true
        → (list_any (λ one. nat_eq one number) numbers ≡ true → Contains numbers number) → Contains (first ∷ numbers) number
    of true is some later = subst (Contains (first ∷ numbers)) (eqb-true first number is) (Contains-first first numbers)
    of false is some later = Contains-later first numbers number (later some)

pub there-among : (numbers : List ℕ) (number : ℕ) → Contains numbers number → list_any (λ one. nat_eq one number) numbers ≡ true
there-among [] number at = absurd (omega (arith, at.1))
there-among (first ∷ numbers) number at = of (nat_eq first number) refl (there-among numbers number)
  where
    of : (b : Bool) → nat_eq first number ≡ b → (Contains numbers number → list_any (λ one. nat_eq one number) numbers ≡ true)
        → (b || list_any (λ one. nat_eq one number) numbers) ≡ true
    of true is later = refl
    of false is later = elim (Contains-cons_cases first numbers number at) [
      | inl same ↦ absurd (true≢false (sym (eq-eqb first number same) ∙ is))
      | inr more ↦ later more
    ]

-- what is made of some of a part is made of some of the whole
pub made-part : (part whole : List ℕ) → ((number : ℕ) → Contains part number → Contains whole number) → (one : Numbered) → is_made_of part one ≡ true → is_made_of whole one ≡ true
made-part part whole within one made = by (is_file one.rule) one.written made
  where
    by : (b : Bool) (written : Option ℕ) → (b && is_among part written) ≡ true → (b && is_among whole written) ≡ true
    by false written made = made
    by true None made = made
    by true (Some number) made = there-among whole number (within number (among-there part number made))

-- what is left of some rules is of them
pub left-there : (gone : List ℕ) (rules : List Numbered) (rule : Rule) → Contains (left_of gone rules) rule → Contains (rules_among rules) rule
left-there gone [] rule at = at
left-there gone (one ∷ rules) rule at = by (stays gone one) refl (left-there gone rules rule)
  where
    by : (b : Bool) → stays gone one ≡ b → (Contains (left_of gone rules) rule → Contains (rules_among rules) rule) → Contains (rules_among (one ∷ rules)) rule
    by true is later =
        let here : left_of gone (one ∷ rules) ≡ one.rule ∷ left_of gone rules = rw is refl in
        elim (Contains-cons_cases one.rule (left_of gone rules) rule (subst (λ l. Contains l rule) here at)) [
          | inl same ↦ subst (Contains (rules_among (one ∷ rules))) same (Contains-first one.rule (rules_among rules))
          | inr more ↦ Contains-later one.rule (rules_among rules) rule (later more)
        ]
    by false is later =
        let here : left_of gone (one ∷ rules) ≡ left_of gone rules = rw is refl in
        Contains-later one.rule (rules_among rules) rule (later (subst (λ l. Contains l rule) here at))

-- each of what passes a test is one of all, and passes it
pub filter-there : {X : Type 0} (test : X → Bool) (xs : List X) (x : X) → Contains (filter test xs) x → Contains xs x × (test x ≡ true)
filter-there test [] x at = absurd (omega (arith, at.1))
filter-there {X} test (first ∷ xs) x at = by (test first) refl (filter-there test xs x)
  where
    by : (b : Bool) → test first ≡ b → (Contains (filter test xs) x → Contains xs x × (test x ≡ true)) → Contains (first ∷ xs) x × (test x ≡ true)
    by true is later =
        let here : filter test (first ∷ xs) ≡ first ∷ filter test xs = rw is refl in
        elim (Contains-cons_cases first (filter test xs) x (subst (λ l. Contains l x) here at)) [
          | inl same ↦ (subst (Contains (first ∷ xs)) same (Contains-first first xs), ap test (sym same) ∙ is)
          | inr more ↦ let both = later more in (Contains-later first xs x both.0, both.1)
        ]
    by false is later =
        let here : filter test (first ∷ xs) ≡ filter test xs = rw is refl in
        let both = later (subst (λ l. Contains l x) here at) in (Contains-later first xs x both.0, both.1)

-- a rule that is made of some stays among those that are
pub made-there : (numbers : List ℕ) (rules : List Numbered) (one : Numbered) → Contains rules one → is_made_of numbers one ≡ true
    → Contains (rules_among (filter (is_made_of numbers) rules)) one.rule
made-there numbers [] one at made = absurd (omega (arith, at.1))
made-there numbers (first ∷ rules) one at made = by (is_made_of numbers first) refl (made-there numbers rules one)
  where
    by : (b : Bool) → is_made_of numbers first ≡ b
        → (Contains rules one → is_made_of numbers one ≡ true → Contains (rules_among (filter (is_made_of numbers) rules)) one.rule)
        → Contains (rules_among (filter (is_made_of numbers) (first ∷ rules))) one.rule
    by true is later =
        let here : rules_among (filter (is_made_of numbers) (first ∷ rules)) ≡ first.rule ∷ rules_among (filter (is_made_of numbers) rules) = rw is refl in
        subst (λ l. Contains l one.rule) (sym here) (elim (Contains-cons_cases first rules one at) [
          | inl same ↦ subst (λ (n : Numbered). Contains (first.rule ∷ rules_among (filter (is_made_of numbers) rules)) n.rule) same (Contains-first first.rule (rules_among (filter (is_made_of numbers) rules)))
          | inr more ↦ Contains-later first.rule (rules_among (filter (is_made_of numbers) rules)) one.rule (later more made)
        ])
    by false is later =
        let here : rules_among (filter (is_made_of numbers) (first ∷ rules)) ≡ rules_among (filter (is_made_of numbers) rules) = rw is refl in
        subst (λ l. Contains l one.rule) (sym here) (elim (Contains-cons_cases first rules one at) [
          | inl same ↦ absurd (true≢false (sym made ∙ ap (is_made_of numbers) (sym same) ∙ is))
          | inr more ↦ later more made
        ])
