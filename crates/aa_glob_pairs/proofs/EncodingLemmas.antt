-- States as bytes, one after the other.
use Rattle.std.proofs.Common.{◌≡◌, ℕ, ◌+◌, ◌-◌, ◌/◌, ◌%◌, ◌^◌, ◌<◌, ◌≤◌, ◌==◌, true, false, Bool, List, [], ◌∷◌, ◌++◌, length, take, drop, get_or, None, Some, refl, sym, ap, subst, ◌∙◌, inl, inr, arith}
use Rattle.std.proofs.lemmas.Bool.{cases_lt, eqb-true, leb-true, ltb-true}
use Rattle.std.proofs.lemmas.List.{append-nil, append_assoc, get_or-append-add, get_or_append_left, length-append, take-append-drop, take_all, take_more}
use Rattle.std.proofs.lemmas.List.Elements.{All-contains, All-push, Contains-get_or}
use Rattle.std.proofs.lemmas.Option.{get_or_from_slice_get, slice_get-get_or, slice_get_within}
use Rattle.std.specs.Prelude.{◌&&◌, All, nat_le, nat_lt, if◌then◌else◌, slice_get}
use Rattle.aa_glob_pairs.specs.code.Encoding.{IsEncoded, bytes_behind, bytes_of, decoded, decoded_far, encoded, is_near, last_of, state_at, state_of}
use Rattle.aa_glob_pairs.specs.Places.{StandsAt}
use Rattle.aa_glob_pairs.specs.declared.place.Place.{Place}

encoded-append : (before : ℕ) (xs ys : List ℕ) → encoded before (xs ++ ys) ≡ encoded before xs ++ encoded (last_of before xs) ys
encoded-append before [] ys = refl
encoded-append before (x ∷ xs) ys = ap (λ l. bytes_behind before x ++ l) (encoded-append x xs ys) ∙ sym (append_assoc (bytes_behind before x) (encoded x xs) (encoded (last_of x xs) ys))

last_of-push : (before : ℕ) (xs : List ℕ) (y : ℕ) → last_of before (xs ++ y ∷ []) ≡ y
last_of-push before [] y = refl
last_of-push before (x ∷ xs) y = last_of-push x xs y

-- a small difference
near_is : (before x : ℕ) → is_near before x ≡ true → (before ≤ x) × (x - before < 255)
near_is before x near = by (nat_le before x) refl (nat_lt (x - before) 255) refl near
  where
    by : (a : Bool) → nat_le before x ≡ a → (b : Bool) → nat_lt (x - before) 255 ≡ b → (a && b) ≡ true → (before ≤ x) × (x - before < 255)
    by true rising true small both = (leb-true before x rising, ltb-true (x - before) 255 small)
    by true rising false small both = absurd cc
    by false rising b small both = absurd cc

-- what four bytes of a state tell
four_bytes : (s : ℕ) → state_of (s % 256) (s / 256 % 256) (s / 65536 % 256) (s / 16777216) ≡ s
four_bytes s = omega arith

-- bytes of states tell these states
decoded_more : (before x : ℕ) (xs : List ℕ) → decoded x (encoded x xs) ≡ xs → decoded before (encoded before (x ∷ xs)) ≡ x ∷ xs
decoded_more before x xs rest = by (is_near before x) refl
  where
    small : (b : Bool) → (x - before == 255) ≡ b → (before ≤ x) × (x - before < 255)
        → (if b then decoded_far (encoded x xs) else ((before + (x - before)) ∷ decoded (before + (x - before)) (encoded x xs))) ≡ x ∷ xs
    small true most near = absurd (omega (arith, eqb-true (x - before) 255 most, near.1))
    small false most near =
        let same : before + (x - before) ≡ x = omega (arith, near.0) in
        ap (λ s. s ∷ decoded s (encoded x xs)) same ∙ ap (λ l. x ∷ l) rest

    by : (b : Bool) → is_near before x ≡ b → decoded before ((if b then (x - before) ∷ [] else (255 ∷ bytes_of x)) ++ encoded x xs) ≡ x ∷ xs
    by true near = small (x - before == 255) refl (near_is before x near)
    by false far = ap (λ s. s ∷ decoded s (encoded x xs)) (four_bytes x) ∙ ap (λ l. x ∷ l) rest

decoded-encoded : (before : ℕ) (xs : List ℕ) → decoded before (encoded before xs) ≡ xs
decoded-encoded before [] = refl
decoded-encoded before (x ∷ xs) = decoded_more before x xs (decoded-encoded x xs)

-- bytes of one more state
pushed : (old : List ℕ) (last x : ℕ) → IsEncoded old → last ≡ last_of 0 (decoded 0 old) → old ++ bytes_behind last x ≡ encoded 0 (decoded 0 old ++ x ∷ [])
pushed old last x coded is =
    ap (λ l. l ++ bytes_behind last x) coded.same ∙ ap (λ b. encoded 0 (decoded 0 old) ++ bytes_behind b x) is
    ∙ sym (ap (λ l. encoded 0 (decoded 0 old) ++ l) (append-nil (bytes_behind (last_of 0 (decoded 0 old)) x))) ∙ sym (encoded-append 0 (decoded 0 old) (x ∷ []))

pub decoded_pushed : (old : List ℕ) (last x : ℕ) → IsEncoded old → last ≡ last_of 0 (decoded 0 old) → decoded 0 (old ++ bytes_behind last x) ≡ decoded 0 old ++ x ∷ []
decoded_pushed old last x coded is = ap (decoded 0) (pushed old last x coded is) ∙ decoded-encoded 0 (decoded 0 old ++ x ∷ [])

pub encoded_pushed : (old : List ℕ) (last x : ℕ) → IsEncoded old → last ≡ last_of 0 (decoded 0 old) → x < 2 ^ 32
    → IsEncoded (old ++ bytes_behind last x) × (x ≡ last_of 0 (decoded 0 (old ++ bytes_behind last x)))
encoded_pushed old last x coded is within =
    let now = decoded_pushed old last x coded is in (
      record {
        same = pushed old last x coded is ∙ ap (encoded 0) (sym now);
        within = subst (λ (l : List ℕ). All (λ s. s < 2 ^ 32) l) (sym now) (All-push (λ s. s < 2 ^ 32) (decoded 0 old) x coded.within within);
      },
      sym (ap (last_of 0) now ∙ last_of-push 0 (decoded 0 old) x),
    )

-- the bytes up to a place behind one more state
one_more : (place : Place) (xs : List ℕ) → StandsAt place xs → place.index < length xs
    → encoded 0 (take (place.index + 1) xs) ≡ encoded 0 (take place.index xs) ++ bytes_behind place.state (get_or xs place.index 0)
one_more place xs stands within =
    let front = take place.index xs in
    let x = get_or xs place.index 0 in
    ap (encoded 0) (take_more xs place.index 0 within) ∙ encoded-append 0 front (x ∷ []) ∙ ap (λ l. encoded 0 front ++ l) (append-nil (bytes_behind (last_of 0 front) x))
    ∙ ap (λ b. encoded 0 front ++ bytes_behind b x) (sym stands.state)

-- the place behind the next state
stands_next : (place : Place) (xs : List ℕ) → StandsAt place xs → place.index < length xs
    → StandsAt (record { index = place.index + 1; offset = place.offset + length (bytes_behind place.state (get_or xs place.index 0)); state = get_or xs place.index 0 }) xs
stands_next place xs stands within = record {
  within = omega (arith, within);
  offset =
      omega (arith, stands.offset, ap length (one_more place xs stands within), length-append (encoded 0 (take place.index xs)) (bytes_behind place.state (get_or xs place.index 0)));
  state = sym (ap (last_of 0) (take_more xs place.index 0 within) ∙ last_of-push 0 (take place.index xs) (get_or xs place.index 0));
}

-- the bytes of the next state, and those behind them
split : (place : Place) (xs : List ℕ) → StandsAt place xs → place.index < length xs
    → (more : List ℕ) × (encoded 0 xs ≡ (encoded 0 (take place.index xs) ++ bytes_behind place.state (get_or xs place.index 0)) ++ more)
split place xs stands within =
    let front = take (place.index + 1) xs in
    let back = drop (place.index + 1) xs in (
      encoded (last_of 0 front) back,
      ap (encoded 0) (sym (take-append-drop (place.index + 1) xs)) ∙ encoded-append 0 front back ∙ ap (λ l. l ++ encoded (last_of 0 front) back) (one_more place xs stands within),
    )

room : (place : Place) (xs : List ℕ) → StandsAt place xs → place.index < length xs
    → place.offset + length (bytes_behind place.state (get_or xs place.index 0)) ≤ length (encoded 0 xs)
room place xs stands within =
    let front = encoded 0 (take place.index xs) in
    let own = bytes_behind place.state (get_or xs place.index 0) in
    let all = split place xs stands within in
    omega (arith, ap length all.1, length-append (front ++ own) all.0, length-append front own, stands.offset)

byte_of_next : (place : Place) (xs : List ℕ) (n : ℕ) → StandsAt place xs → place.index < length xs → n < length (bytes_behind place.state (get_or xs place.index 0))
    → get_or (encoded 0 xs) (place.offset + n) 0 ≡ get_or (bytes_behind place.state (get_or xs place.index 0)) n 0
byte_of_next place xs n stands within inside =
    let front = encoded 0 (take place.index xs) in
    let own = bytes_behind place.state (get_or xs place.index 0) in
    let all = split place xs stands within in
    ap (λ l. get_or l (place.offset + n) 0) all.1
    ∙ get_or_append_left (front ++ own) all.0 0 (place.offset + n) (omega (arith, length-append front own, stands.offset, inside))
    ∙ ap (λ o. get_or (front ++ own) (o + n) 0) stands.offset
    ∙ get_or-append-add front own n 0

-- each state has bytes
bytes_some : (before x : ℕ) → 0 < length (bytes_behind before x)
bytes_some before x = by (is_near before x)
  where
    by : (b : Bool) → 0 < length (if b then (x - before) ∷ [] else (255 ∷ bytes_of x))
    by true = omega arith
    by false = omega arith

no_longer : (before : ℕ) (xs : List ℕ) → length xs ≤ length (encoded before xs)
no_longer before [] = omega arith
no_longer before (x ∷ xs) = omega (arith, no_longer x xs, length-append (bytes_behind before x) (encoded x xs), bytes_some before x)

-- where no byte is behind a place, no state is
pub at_end : (place : Place) (bytes : List ℕ) → IsEncoded bytes → StandsAt place (decoded 0 bytes) → slice_get bytes place.offset ≡ None → length (decoded 0 bytes) ≤ place.index
at_end place bytes coded stands none = elim (cases_lt place.index (length (decoded 0 bytes))) [
  | inl within ↦
      let x = get_or (decoded 0 bytes) place.index 0 in
      let there : place.offset < length bytes = omega (arith, room place (decoded 0 bytes) stands within, bytes_some place.state x, ap length coded.same) in
      let wrong : None ≡ Some (get_or bytes place.offset 0) = sym none ∙ slice_get-get_or bytes place.offset 0 there in
      absurd cc
  | inr past ↦ past
]

-- where a byte is, a state is
pub is_within : (place : Place) (bytes : List ℕ) (byte : ℕ) → IsEncoded bytes → StandsAt place (decoded 0 bytes) → slice_get bytes place.offset ≡ Some byte
    → (place.index < length (decoded 0 bytes)) × (length (decoded 0 bytes) ≤ length bytes)
is_within place bytes byte coded stands is = (
  elim (cases_lt place.index (length (decoded 0 bytes))) [
    | inl within ↦ within
    | inr past ↦
        absurd
        (omega (arith, slice_get_within bytes place.offset byte is, stands.offset, ap (λ l. length (encoded 0 l)) (take_all place.index (decoded 0 bytes) past), ap length coded.same))
  ],
  omega (arith, no_longer 0 (decoded 0 bytes), ap length coded.same),
)

byte_there : (place : Place) (bytes : List ℕ) (n : ℕ) → IsEncoded bytes → StandsAt place (decoded 0 bytes) → place.index < length (decoded 0 bytes)
    → n < length (bytes_behind place.state (get_or (decoded 0 bytes) place.index 0))
    → get_or bytes (place.offset + n) 0 ≡ get_or (bytes_behind place.state (get_or (decoded 0 bytes) place.index 0)) n 0
byte_there place bytes n coded stands within inside =
    ap (λ l. get_or l (place.offset + n) 0) coded.same ∙ byte_of_next place (decoded 0 bytes) n stands within inside

first_byte : (place : Place) (bytes : List ℕ) (byte : ℕ) → IsEncoded bytes → StandsAt place (decoded 0 bytes) → place.index < length (decoded 0 bytes)
    → slice_get bytes place.offset ≡ Some byte → byte ≡ get_or (bytes_behind place.state (get_or (decoded 0 bytes) place.index 0)) 0 0
first_byte place bytes byte coded stands within is =
    let here : place.offset ≡ place.offset + 0 = omega arith in
    sym (get_or_from_slice_get bytes place.offset byte 0 is) ∙ ap (λ o. get_or bytes o 0) here
    ∙ byte_there place bytes 0 coded stands within (bytes_some place.state (get_or (decoded 0 bytes) place.index 0))

-- what the first byte of a state tells
is_small : (before x byte : ℕ) → byte ≡ get_or (bytes_behind before x) 0 0 → byte < 255 → (x ≡ before + byte) × (length (bytes_behind before x) ≡ 1)
is_small before x byte first small = by (is_near before x) refl first
  where
    by : (b : Bool) → is_near before x ≡ b → byte ≡ get_or (if b then (x - before) ∷ [] else (255 ∷ bytes_of x)) 0 0
        → (x ≡ before + byte) × (length (if b then (x - before) ∷ [] else (255 ∷ bytes_of x)) ≡ 1)
    by true near is = let rises = near_is before x near in (omega (arith, rises.0, is), refl)
    by false far is = absurd (omega (arith, is, small))

is_far : (before x byte : ℕ) → byte ≡ get_or (bytes_behind before x) 0 0 → 255 ≤ byte → bytes_behind before x ≡ 255 ∷ bytes_of x
is_far before x byte first great = by (is_near before x) refl first
  where
    by : (b : Bool) → is_near before x ≡ b → byte ≡ get_or (if b then (x - before) ∷ [] else (255 ∷ bytes_of x)) 0 0
        → (if b then (x - before) ∷ [] else (255 ∷ bytes_of x)) ≡ 255 ∷ bytes_of x
    by true near is = let rises = near_is before x near in absurd (omega (arith, rises.1, is, great))
    by false far is = refl

-- the next state by a difference
pub near_next : (place : Place) (bytes : List ℕ) (byte : ℕ) → IsEncoded bytes → StandsAt place (decoded 0 bytes) → slice_get bytes place.offset ≡ Some byte → byte < 255
    → (place.state + byte < 2 ^ 32) × (slice_get (decoded 0 bytes) place.index ≡ Some (place.state + byte))
    × StandsAt (record { index = place.index + 1; offset = place.offset + 1; state = place.state + byte }) (decoded 0 bytes)
near_next place bytes byte coded stands is small =
    let xs = decoded 0 bytes in
    let within = (is_within place bytes byte coded stands is).0 in
    let x = get_or xs place.index 0 in
    let known = is_small place.state x byte (first_byte place bytes byte coded stands within is) small in (
      omega (arith, known.0, All-contains (λ s. s < 2 ^ 32) xs x coded.within (Contains-get_or xs place.index 0 within)),
      subst (λ s. slice_get xs place.index ≡ Some s) known.0 (slice_get-get_or xs place.index 0 within),
      subst (λ s. StandsAt (record { index = place.index + 1; offset = place.offset + 1; state = s }) xs) known.0
          (subst (λ n. StandsAt (record { index = place.index + 1; offset = place.offset + n; state = x }) xs) known.1 (stands_next place xs stands within)),
    )

-- the next state by its own bytes
pub far_next : (place : Place) (bytes : List ℕ) (byte : ℕ) → IsEncoded bytes → StandsAt place (decoded 0 bytes) → slice_get bytes place.offset ≡ Some byte → 255 ≤ byte
    → (place.offset + 4 < length bytes) × ((state : ℕ)
    → state ≡ state_at bytes (place.offset + 1)
    → (slice_get (decoded 0 bytes) place.index ≡ Some state) × StandsAt (record { index = place.index + 1; offset = place.offset + 5; state = state }) (decoded 0 bytes))
far_next place bytes byte coded stands is great =
    let xs = decoded 0 bytes in
    let within = (is_within place bytes byte coded stands is).0 in
    let x = get_or xs place.index 0 in
    let far = is_far place.state x byte (first_byte place bytes byte coded stands within is) great in
    let five : length (bytes_behind place.state x) ≡ 5 = ap length far in
    let at : (o n : ℕ) → o ≡ place.offset + n → n < 5 → get_or bytes o 0 ≡ get_or (255 ∷ bytes_of x) n 0 =
    λ o n is low. ap (λ i. get_or bytes i 0) is ∙ byte_there place bytes n coded stands within (omega (arith, five, low)) ∙ ap (λ l. get_or l n 0) far
    in (
      omega (arith, room place xs stands within, five, ap length coded.same),
      λ state known.
          let same : x ≡ state =
          omega (
            arith,
            known,
            at (place.offset + 1) 1 (omega arith) (omega arith),
            at (place.offset + 1 + 1) 2 (omega arith) (omega arith),
            at (place.offset + 1 + 2) 3 (omega arith) (omega arith),
            at (place.offset + 1 + 3) 4 (omega arith) (omega arith),
          )
          in (
            subst (λ s. slice_get xs place.index ≡ Some s) same (slice_get-get_or xs place.index 0 within),
            subst (λ s. StandsAt (record { index = place.index + 1; offset = place.offset + 5; state = s }) xs) same
                (subst (λ n. StandsAt (record { index = place.index + 1; offset = place.offset + n; state = x }) xs) five (stands_next place xs stands within)),
          ),
    )
