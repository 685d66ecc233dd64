-- Tests of lists and of numbers.
use Rattle.std.proofs.Common.{◌≡◌, ℕ, zero, suc, ◌<◌, ◌&&◌, Bool, true, false, List, [], ◌∷◌, refl, ap, ◌∙◌, subst, inl, inr, arith}
use Rattle.std.specs.Prelude.{Contains, if◌then◌else◌}
use Rattle.std.specs.List.{list_any}
use Rattle.std.proofs.lemmas.Bool.{cases_lt, or_cases, or_left, or_right}
use Rattle.std.proofs.lemmas.List.Elements.{Contains-append_cases, Contains-append_left, Contains-append_right, Contains-push, Contains-push_cases}
use Rattle.aa_glob_pattern.specs.Shared.{some_below, some_pass}
use Rattle.aa_glob_pattern.specs.Trails.{Trail}

pub is_off : (b : Bool) → b ≡ false → b ≡ true → ⊥
is_off b off on = absurd cc

pub and_both : (a b : Bool) → a ≡ true → b ≡ true → (a && b) ≡ true
and_both a b one two = rw one two

-- an element in front of a list, and one behind it
pub Contains-head : {X : Type 0} (x : X) (xs : List X) → Contains (x ∷ xs) x
Contains-head x xs = Contains-append_left (x ∷ []) xs x (Contains-push [] x)

pub Contains-tail : {X : Type 0} (x : X) (xs : List X) (y : X) → Contains xs y → Contains (x ∷ xs) y
Contains-tail x xs y h = Contains-append_right (x ∷ []) xs y h

pub nothing_there : {X : Type 0} (x : X) → Contains [] x → ⊥
nothing_there x h = omega (arith, h.1)

pub alone : {X : Type 0} (x y : X) → Contains (x ∷ []) y → x ≡ y
alone x y h = elim (Contains-push_cases [] x y h) [ inl none ↦ absurd (nothing_there y none) | inr same ↦ same ]

pub contains_if : {X : Type 0} (b : Bool) (xs : List X) (x : X) → Contains (if b then xs else []) x → (b ≡ true) × Contains xs x
contains_if true xs x h = (refl, h)
contains_if false xs x h = absurd (nothing_there x h)

pub if_contains : {X : Type 0} (b : Bool) (xs : List X) (x : X) → b ≡ true → Contains xs x → Contains (if b then xs else []) x
if_contains b xs x on h = rw on h

-- tests of lists and of numbers
pub any_one : {X : Type 0} (test : X → Bool) (xs : List X) → list_any test xs ≡ true → (x : X) × Contains xs x × (test x ≡ true)
any_one test [] h = absurd (is_off false refl h)
any_one test (x ∷ xs) h = elim (or_cases (test x) (list_any test xs) h) [
  | inl here ↦ (x, Contains-head x xs, here)
  | inr later ↦ let one = any_one test xs later in (one.0, Contains-tail x xs one.0 one.1, one.2)
]

pub pass_of : (test : Trail → Trail → Bool) (firsts seconds : List Trail) → some_pass test firsts seconds ≡ true
    → (s : Trail) × (t : Trail) × Contains firsts s × Contains seconds t × (test s t ≡ true)
pass_of test firsts seconds h =
    let one = any_one (λ s. list_any (test s) seconds) firsts h in
    let other = any_one (test one.0) seconds one.2 in
    (one.0, other.0, one.1, other.1, other.2)

pub below_of : (n : ℕ) (test : ℕ → Bool) → some_below n test ≡ true → (c : ℕ) × (c < n) × (test c ≡ true)
below_of zero test h = absurd (is_off false refl h)
below_of (suc n) test h = elim (or_cases (test n) (some_below n test) h) [
  | inl here ↦ (n, omega arith, here)
  | inr less ↦ let one = below_of n test less in (one.0, omega (arith, one.1), one.2)
]

pub of_below : (n : ℕ) (test : ℕ → Bool) (c : ℕ) → c < n → test c ≡ true → some_below n test ≡ true
of_below zero test c within passes = absurd (omega (arith, within))
of_below (suc n) test c within passes = elim (cases_lt c n) [
  | inl less ↦ or_right (test n) (some_below n test) (of_below n test c less passes)
  | inr not_less ↦ let same : c ≡ n = omega (arith, within, not_less) in or_left (test n) (some_below n test) (subst (λ m. test m ≡ true) same passes)
]

pub any_in : {X : Type 0} (test : X → Bool) (xs : List X) (x : X) → Contains xs x → test x ≡ true → list_any test xs ≡ true
any_in test [] x h passes = absurd (nothing_there x h)
any_in test (y ∷ xs) x h passes = elim (Contains-append_cases (y ∷ []) xs x h) [
  | inl here ↦ or_left (test y) (list_any test xs) (ap test (alone y x here) ∙ passes)
  | inr later ↦ or_right (test y) (list_any test xs) (any_in test xs x later passes)
]

pub pass_in : (test : Trail → Trail → Bool) (firsts seconds : List Trail) (s t : Trail) → Contains firsts s → Contains seconds t → test s t ≡ true
    → some_pass test firsts seconds ≡ true
pass_in test firsts seconds s t first second passes =
    any_in (λ x. list_any (test x) seconds) firsts s first (any_in (test s) seconds t second passes)
