-- What hashes and numbers are made of: bytes that their pattern stands for.
use Rattle.std.proofs.Common.{◌≡◌, ◌≢◌, ℕ, zero, suc, ◌+◌, ◌-◌, ◌<◌, ◌≤◌, nat_le, Bool, true, false, ◌==◌, ◌&&◌, ◌||◌, List, [], ◌∷◌, length, take, refl, sym, ap, subst, ◌∙◌, arith, inl, inr, if◌then◌else◌}
use Rattle.std.proofs.lemmas.Bool.{and_parts, cases_Bool, false≢true}
use Rattle.std.proofs.lemmas.Bool.Decides.{nat_tests}
use Rattle.std.proofs.lemmas.List.{get_or-take}
use Rattle.std.proofs.lemmas.List.Elements.{All-cons, All-from_get_or, All-nil, All-tail, All-weaker}
use Rattle.std.proofs.lemmas.List.Folds.{length-prefix_len}
use Rattle.std.proofs.lemmas.List.Sums.{prefix_len_passes}
use Rattle.std.specs.List.{All, list_all, list_any, prefix_len}
use Rattle.aa_bytes.specs.Bytes.{is_digit, is_letter, is_letter_or_digit}
use Rattle.aa_glob_syntax.specs.Matching.{IsInside}
use Rattle.aatry_log_globs.specs.Runs.{are_of_uuid, begins_with_uuid, hash_size, hash_size_behind, is_dash_place, is_hash, is_hexadecimal, is_of_uuid, number_size, word_size}

-- bytes of hashes and numbers stand within a segment of a path
digit-inside : (b : ℕ) → is_digit b ≡ true → IsInside b
digit-inside b digit = (grind (arith, nat_tests), grind (arith, nat_tests))

hexadecimal-inside : (b : ℕ) → is_hexadecimal b ≡ true → IsInside b
hexadecimal-inside b hexadecimal = (grind (arith, nat_tests), grind (arith, nat_tests))

of_uuid-inside : (place b : ℕ) → is_of_uuid place b ≡ true → IsInside b
of_uuid-inside place b holds = elim (cases_Bool (is_dash_place place)) [
  | inl dash ↦ let is : (b == 45) ≡ true = ap (λ t. if t then b == 45 else is_hexadecimal b) (sym dash) ∙ holds in (grind (arith, nat_tests), grind (arith, nat_tests))
  | inr other ↦ hexadecimal-inside b (ap (λ t. if t then b == 45 else is_hexadecimal b) (sym other) ∙ holds)
]

-- what passes a test, each byte of it
all-passed : (p : ℕ → Bool) (xs : List ℕ) → list_all p xs ≡ true → All (λ b. p b ≡ true) xs
all-passed p [] passed = All-nil (λ b. p b ≡ true)
all-passed p (x ∷ xs) passed = let parts = and_parts (p x) (list_all p xs) passed in All-cons (λ b. p b ≡ true) x xs parts.0 (all-passed p xs parts.1)

front-passed : (p : ℕ → Bool) (xs : List ℕ) → All (λ b. p b ≡ true) (take (prefix_len p xs) xs)
front-passed p xs = All-from_get_or (λ b. p b ≡ true) (take (prefix_len p xs) xs) 0 (λ i within.
    let below : i < prefix_len p xs = subst (λ n. i < n) (length-prefix_len p xs) within in
    ap p (get_or-take (prefix_len p xs) xs i 0 below) ∙ prefix_len_passes p xs i 0 below)

uuid-inside : (place : ℕ) (xs : List ℕ) → are_of_uuid place xs ≡ true → All IsInside xs
uuid-inside place [] holds = All-nil IsInside
uuid-inside place (x ∷ xs) holds =
    let parts = and_parts (is_of_uuid place x) (are_of_uuid (place + 1) xs) holds in
    All-cons IsInside x xs (of_uuid-inside place x parts.0) (uuid-inside (place + 1) xs parts.1)

-- a number's bytes
pub number-inside : (text : List ℕ) → All IsInside (take (number_size text) text)
number-inside text = All-weaker (λ b. is_digit b ≡ true) IsInside digit-inside (take (number_size text) text) (front-passed is_digit text)

pub number-first : (b : ℕ) (bs : List ℕ) → (number_size (b ∷ bs) == 0) ≡ false → is_digit b ≡ true
number-first b bs some = elim (cases_Bool (is_digit b)) [
  | inl digit ↦ digit
  | inr other ↦ let none : number_size (b ∷ bs) ≡ 0 = rw other refl in absurd (false≢true (sym some ∙ ap (λ n. n == 0) none))
]

-- a hash of so many bytes at the beginning of a text: bytes within a segment, the first of them a hexadecimal digit
pub record IsHashFront (size b : ℕ) (bs : List ℕ) : Type 0 where
  pub inside : All IsInside (take size (b ∷ bs))
  pub first : is_hexadecimal b ≡ true

uuid-front : (b : ℕ) (bs : List ℕ) → begins_with_uuid (b ∷ bs) ≡ true → IsHashFront 36 b bs
uuid-front b bs holds =
    let uuid = (and_parts _ _ (and_parts _ _ holds).0).1 in
    record { inside = uuid-inside 0 (take 36 (b ∷ bs)) uuid; first = (and_parts (is_of_uuid 0 b) (are_of_uuid (0 + 1) (take 35 bs)) uuid).0 }

hash-parts : (word : List ℕ) → is_hash word ≡ true → (8 ≤ length word) × (list_all is_hexadecimal word ≡ true)
hash-parts word holds =
    let some = and_parts (nat_le 8 (length word) && list_all is_hexadecimal word && list_any is_digit word) (list_any is_letter word) holds in
    let digit = and_parts (nat_le 8 (length word) && list_all is_hexadecimal word) (list_any is_digit word) some.0 in
    let parts = and_parts (nat_le 8 (length word)) (list_all is_hexadecimal word) digit.0 in
    let long : nat_le 8 (length word) ≡ true = parts.0 in
    (grind (arith, nat_tests), parts.1)

word-front : (b : ℕ) (bs : List ℕ) → is_hash (take (word_size (b ∷ bs)) (b ∷ bs)) ≡ true → IsHashFront (word_size (b ∷ bs)) b bs
word-front b bs holds =
    let size = word_size (b ∷ bs) in
    let parts = hash-parts (take size (b ∷ bs)) holds in
    let all = all-passed is_hexadecimal (take size (b ∷ bs)) parts.1 in
    let long : 0 < length (take size (b ∷ bs)) = omega (arith, parts.0) in
    let some : 0 < size = subst (λ n. 0 < n) (length-prefix_len is_letter_or_digit (b ∷ bs)) long in
    record {
      inside = All-weaker (λ x. is_hexadecimal x ≡ true) IsInside hexadecimal-inside (take size (b ∷ bs)) all;
      first = ap is_hexadecimal (sym (get_or-take size (b ∷ bs) 0 0 some)) ∙ all 0 0 long;
    }

hash-size-front : (b : ℕ) (bs : List ℕ) → (hash_size (b ∷ bs) == 0) ≡ false → IsHashFront (hash_size (b ∷ bs)) b bs
hash-size-front b bs some = elim (cases_Bool (begins_with_uuid (b ∷ bs))) [
  | inl uuid ↦ rw uuid (uuid-front b bs uuid)
  | inr other ↦ elim (cases_Bool (is_hash (take (word_size (b ∷ bs)) (b ∷ bs)))) [
    | inl word ↦ rw (other, word) (word-front b bs word)
    | inr neither ↦ let none : hash_size (b ∷ bs) ≡ 0 = rw (other, neither) refl in absurd (false≢true (sym some ∙ ap (λ n. n == 0) none))
  ]
]

pub hash-front : (before b : ℕ) (bs : List ℕ) → (hash_size_behind before (b ∷ bs) == 0) ≡ false → IsHashFront (hash_size_behind before (b ∷ bs)) b bs
hash-front before b bs some = elim (cases_Bool (is_letter_or_digit before)) [
  | inl within ↦ let none : hash_size_behind before (b ∷ bs) ≡ 0 = rw within refl in absurd (false≢true (sym some ∙ ap (λ n. n == 0) none))
  | inr bounded ↦
      let same : hash_size_behind before (b ∷ bs) ≡ hash_size (b ∷ bs) = rw bounded refl in
      subst (λ n. IsHashFront n b bs) (sym same) (hash-size-front b bs (ap (λ n. n == 0) (sym same) ∙ some))
]

-- the bytes behind the first one
pub inside-tail : (size b : ℕ) (bs : List ℕ) → (size == 0) ≡ false → All IsInside (take size (b ∷ bs)) → All IsInside (take (size - 1) bs)
inside-tail zero b bs some inside = absurd (false≢true (sym some))
inside-tail (suc n) b bs some inside =
    let less : n ≡ suc n - 1 = omega arith in
    subst (λ k. All IsInside (take k bs)) less (All-tail IsInside b (take n bs) inside)
