-- What stands at rising places that are those of what passes a test is what passes it.
use Rattle.std.proofs.Common.{◌≡◌, ℕ, zero, suc, ◌+◌, ◌-◌, ◌<◌, ◌≤◌, Bool, true, false, List, [], ◌∷◌, length, None, Some, arith, ap, refl, sym, ◌∙◌, inl, inr}
use Rattle.std.specs.Prelude.{◌⊎◌, slice_get}
use Rattle.std.specs.List.{Contains, filter}
use Rattle.std.specs.List.Sorted.{IsStrictlyIncreasing}
use Rattle.aa_profile_data.specs.Picked.{picked}

-- numbers rise, and the first is no less than one
abbrev pub Rises : ℕ → List ℕ → Type 0
Rises least [] = Unit
Rises least (x ∷ xs) = (least ≤ x) × Rises (x + 1) xs

-- with a lower least number they rise as well
pub Rises-lower : (least more : ℕ) (xs : List ℕ) → least ≤ more → Rises more xs → Rises least xs
Rises-lower least more [] h r = r
Rises-lower least more (x ∷ xs) h r = (let l = r.0 in omega arith, r.1)

rises-next : (least : ℕ) (x : ℕ) (xs : List ℕ) → least ≤ x → IsStrictlyIncreasing (x ∷ xs) → Rises least (x ∷ xs)
rises-next least x [] h inc = (h, tt)
rises-next least x (y ∷ ys) h inc =
    (h, rises-next (x + 1) y ys (let first = inc 0 (omega arith) in omega arith) (λ k within. let moved : suc k + 1 ≡ suc (k + 1) = omega arith in rw moved at (inc (suc k) (omega arith))))

pub Rises-from : (xs : List ℕ) → IsStrictlyIncreasing xs → Rises 0 xs
Rises-from [] inc = tt
Rises-from (x ∷ xs) inc = rises-next 0 x xs (omega arith) inc

pub Rises-to : (least : ℕ) (xs : List ℕ) → Rises least xs → IsStrictlyIncreasing xs
Rises-to least [] r k within = absurd (omega arith)
Rises-to least (x ∷ []) r k within = absurd (omega arith)
Rises-to least (x ∷ y ∷ ys) r zero within = let l = r.1.0 in omega arith
Rises-to least (x ∷ y ∷ ys) r (suc k) within = let moved : suc k + 1 ≡ suc (k + 1) = omega arith in rw moved (Rises-to (x + 1) (y ∷ ys) r.1 k (omega arith))

-- the first is there, and what is behind it
pub Contains-first : {X : Type 0} (x : X) (xs : List X) → Contains (x ∷ xs) x
Contains-first x xs = (0, omega arith, refl)

pub Contains-behind : {X : Type 0} (x : X) (xs : List X) (y : X) → Contains xs y → Contains (x ∷ xs) y
Contains-behind x xs y (k, within, is) = (suc k, (let w : suc k < length (x ∷ xs) = omega arith in w), is)

pub Contains-split : {X : Type 0} (x : X) (xs : List X) (y : X) → Contains (x ∷ xs) y → (x ≡ y) ⊎ Contains xs y
Contains-split x xs y (zero, within, is) = inl is
Contains-split x xs y (suc k, within, is) = inr (k, (let w : k < length xs = omega arith in w), is)

-- all are no less than the least
pub Rises-least : (least : ℕ) (xs : List ℕ) (x : ℕ) → Rises least xs → Contains xs x → least ≤ x
Rises-least least [] x r (k, within, is) = absurd (omega arith)
Rises-least least (y ∷ ys) x r there = elim (Contains-split y ys x there) [
  | inl same ↦ let l = r.0 in omega arith
  | inr behind ↦ let l = r.0 in let rest = Rises-least (y + 1) ys x r.1 behind in omega arith
]

module _ {X : Type 0} (test : X → Bool) (whole : List X) where
  -- what passes the test stands at a place
  abbrev pub Passes : ℕ → Type 0
  Passes place = (x : X) × (slice_get whole place ≡ Some x) × (test x ≡ true)

  -- the places from one on are those of what passes
  pub record ArePassing (first : ℕ) (places : List ℕ) : Type 0 where
    pub rise : Rises first places
    pub sound : (place : ℕ) → Contains places place → Passes place
    pub complete : (place : ℕ) → first ≤ place → Passes place → Contains places place

  -- no place from one on stands within the list
  none-passes : (first : ℕ) (places : List ℕ) → ArePassing first places → ((place : ℕ) → slice_get whole (first + place) ≡ None) → places ≡ []
  none-passes first [] p none = refl
  none-passes first (place ∷ places) p none =
      let (x, there, passed) = p.sound place (Contains-first place places) in
      let more = p.rise.0 in
      let at : first + (place - first) ≡ place = omega arith in
      let here : slice_get whole place ≡ None = ap (slice_get whole) (sym at) ∙ none (place - first) in
      absurd (cc)

  pub picked-passing : (rest : List X) (first : ℕ) (places : List ℕ) → ((place : ℕ) → slice_get whole (first + place) ≡ slice_get rest place) → ArePassing first places
      → picked whole places ≡ filter test rest
  picked-passing [] first places at p = ap (picked whole) (none-passes first places p at)
  picked-passing (x ∷ rest) first places at p = by (test x) refl
      (λ others passing. picked-passing rest (first + 1) others
      (λ place. let plain : (first + 1) + place ≡ first + suc place = omega arith in ap (slice_get whole) plain ∙ at (suc place)) passing)
    where
      -- what the others are, by the places behind
      Rest : Type 0
      Rest = (others : List ℕ) → ArePassing (first + 1) others → picked whole others ≡ filter test rest

      here : slice_get whole first ≡ Some x
      here = let plain : first + 0 ≡ first = omega arith in ap (slice_get whole) (sym plain) ∙ at 0

      kept : (places : List ℕ) → ArePassing first places → test x ≡ true → Rest → picked whole places ≡ x ∷ filter test rest
      kept [] p e rest = let there = p.complete first (omega arith) (x, here, e) in let w = there.1 in absurd (omega arith)
      kept (place ∷ places) p e rest =
          let first_there = p.complete first (omega arith) (x, here, e) in
          let same : place ≡ first = elim (Contains-split place places first first_there) [
            | inl is ↦ is
            | inr behind ↦ let l = Rises-least (place + 1) places first p.rise.1 behind in let m = p.rise.0 in absurd (omega arith)
          ] in
          let found : slice_get whole place ≡ Some x = ap (slice_get whole) same ∙ here in
          let others : ArePassing (first + 1) places = record {
            rise = Rises-lower (first + 1) (place + 1) places (omega arith) p.rise.1;
            sound = λ other there. p.sound other (Contains-behind place places other there);
            complete = λ other less passes. elim (Contains-split place places other (p.complete other (omega arith) passes)) [
              | inl is ↦ absurd (omega arith)
              | inr behind ↦ behind
            ];
          } in
          rw (picked, found) (ap (λ xs. x ∷ xs) (rest places others))

      away : (places : List ℕ) → ArePassing first places → test x ≡ false → Rises (first + 1) places
      away [] p e = tt
      away (place ∷ places) p e = (further, p.rise.1)
        where
          further : first + 1 ≤ place
          further =
              let l = p.rise.0 in
              let (y, is, passed) = p.sound place (Contains-first place places) in
              let apart : (place ≡ first → ⊥) = λ same. let there : slice_get whole place ≡ Some x = ap (slice_get whole) same ∙ here in absurd (cc) in
              omega arith

      by : (b : Bool) → test x ≡ b → Rest → picked whole places ≡ filter test (x ∷ rest)
      by true e rest = rw e (kept places p e rest)
      by false e rest =
          let others : ArePassing (first + 1) places = record {
            rise = away places p e;
            sound = p.sound;
            complete = λ other less passes. p.complete other (omega arith) passes;
          } in
          rw e (rest places others)
