-- Tests: of one and another, of numbers, and of the elements of lists.
use Rattle.std.proofs.Common.{◌≡◌, ℕ, Bool, true, false, nat_eq, ◌||◌, List, [], ◌∷◌, ◌++◌, arith, refl, sym, ap, ◌∙◌, ◌⊎◌, inl, inr}
use Rattle.std.specs.List.{list_any}
use Rattle.std.proofs.lemmas.Bool.{or_from, or_left, or_parts, or_right}
use Rattle.std.proofs.lemmas.Bool.Decides.{nat_tests}
use Rattle.std.proofs.lemmas.List.Folds.{list_any-append}

-- where one passes, a part does
pub or-split : (a b : Bool) → (a || b) ≡ true → (a ≡ true) ⊎ (b ≡ true)
or-split true b h = inl refl
or-split false b h = inr h

-- a number passes the test of being itself
pub same-test : (x : ℕ) → nat_eq x x ≡ true
same-test x = grind (arith, nat_tests)

-- numbers that pass it are the same
pub same-from_test : (q x : ℕ) → nat_eq q x ≡ true → q ≡ x
same-from_test q x h = grind (arith, nat_tests)

module _ {X : Type 0} (test : X → Bool) where
  -- an element passes where one of the first list does
  pub any-left : (xs ys : List X) → list_any test xs ≡ true → list_any test (xs ++ ys) ≡ true
  any-left xs ys h = list_any-append test xs ys ∙ or_left (list_any test xs) (list_any test ys) h

  -- and where one of the second does
  pub any-right : (xs ys : List X) → list_any test ys ≡ true → list_any test (xs ++ ys) ≡ true
  any-right xs ys h = list_any-append test xs ys ∙ or_right (list_any test xs) (list_any test ys) h

  -- where one passes, it is of the first list or of the second
  pub any-split : (xs ys : List X) → list_any test (xs ++ ys) ≡ true → (list_any test xs ≡ true) ⊎ (list_any test ys ≡ true)
  any-split xs ys h = or-split (list_any test xs) (list_any test ys) (sym (list_any-append test xs ys) ∙ h)

  -- none passes where none of either does
  pub any-neither : (xs ys : List X) → list_any test xs ≡ false → list_any test ys ≡ false → list_any test (xs ++ ys) ≡ false
  any-neither xs ys h k = list_any-append test xs ys ∙ or_from (list_any test xs) (list_any test ys) h k

  -- where none of two lists passes, none of the first does
  pub any-neither_left : (xs ys : List X) → list_any test (xs ++ ys) ≡ false → list_any test xs ≡ false
  any-neither_left xs ys h = (or_parts (list_any test xs) (list_any test ys) (sym (list_any-append test xs ys) ∙ h)).0

  -- nor of the second
  pub any-neither_right : (xs ys : List X) → list_any test (xs ++ ys) ≡ false → list_any test ys ≡ false
  any-neither_right xs ys h = (or_parts (list_any test xs) (list_any test ys) (sym (list_any-append test xs ys) ∙ h)).1

  -- elements of which none passes, before others
  pub any-behind : (xs ys all : List X) → list_any test xs ≡ false → xs ++ ys ≡ all → list_any test ys ≡ list_any test all
  any-behind xs ys all h e = sym (rw (list_any-append test xs ys, h) refl) ∙ ap (list_any test) e

  -- what passes the test passes another
  pub any-weaker : (other : X → Bool) → ((x : X) → test x ≡ true → other x ≡ true) → (xs : List X) → list_any test xs ≡ true → list_any other xs ≡ true
  any-weaker other f [] h = h
  any-weaker other f (x ∷ xs) h = by (or-split (test x) (list_any test xs) h) (any-weaker other f xs)
    where
      by : (test x ≡ true) ⊎ (list_any test xs ≡ true) → (list_any test xs ≡ true → list_any other xs ≡ true) → list_any other (x ∷ xs) ≡ true
      by (inl here) rest = or_left (other x) (list_any other xs) (f x here)
      by (inr there) rest = or_right (other x) (list_any other xs) (rest there)
