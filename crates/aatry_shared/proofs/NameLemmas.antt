-- The names of those that have a change, with one more.
use Rattle.std.proofs.Common.{◌≡◌, ℕ, zero, suc, Bool, true, false, cond, List, [], ◌∷◌, ◌++◌, arith, inl, inr, refl, sym, ◌⊎◌}
use Rattle.std.proofs.lemmas.List.Elements.{Contains-append_cases, Contains-append_left, Contains-push}
use Rattle.std.proofs.lemmas.Slice.Eq.{bytes_eq-Decides}
use Rattle.std.specs.List.{Contains}
use Rattle.aatry_shared.specs.Sharing.{ends_in, with_name}

-- what a tail has the list has
pub behind-first : {X : Type 0} (first : X) (items : List X) (item : X) → Contains items item → Contains (first ∷ items) item
behind-first first items item (k, within, is) = (suc k, omega (arith, within), is)

-- the last name is one of the names
ends-contains : (names : List (List ℕ)) (name : List ℕ) → ends_in names name ≡ true → Contains names name
ends-contains [] name ends = absurd (cc)
ends-contains (last ∷ []) name ends = (0, omega arith, (bytes_eq-Decides last name).0 ends)
ends-contains (first ∷ second ∷ names) name ends =
    behind-first first (second ∷ names) name (ends-contains (second ∷ names) name ends)

-- the name is there then
pub name-there : (names : List (List ℕ)) (name : List ℕ) → Contains (with_name names name) name
name-there names name = by (ends_in names name) refl
  where
    by : (ends : Bool) → ends_in names name ≡ ends → Contains (cond ends names (names ++ name ∷ [])) name
    by true h = ends-contains names name h
    by false h = Contains-push names name

-- and so are those that were
pub name-kept : (names : List (List ℕ)) (name other : List ℕ) → Contains names other → Contains (with_name names name) other
name-kept names name other there = by (ends_in names name)
  where
    by : (ends : Bool) → Contains (cond ends names (names ++ name ∷ [])) other
    by true = there
    by false = Contains-append_left names (name ∷ []) other there

only-one : (name other : List ℕ) → Contains (name ∷ []) other → other ≡ name
only-one name other (zero, within, is) = sym is
only-one name other (suc k, within, is) = absurd (omega (arith, within))

-- and no other
pub name-origin : (names : List (List ℕ)) (name other : List ℕ) → Contains (with_name names name) other → Contains names other ⊎ (other ≡ name)
name-origin names name other there = by (ends_in names name) there
  where
    by : (ends : Bool) → Contains (cond ends names (names ++ name ∷ [])) other → Contains names other ⊎ (other ≡ name)
    by true there = inl there
    by false there = elim (Contains-append_cases names (name ∷ []) other there) [
      | inl old ↦ inl old
      | inr new ↦ inr (only-one name other new)
    ]
