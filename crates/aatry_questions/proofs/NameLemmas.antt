-- Names, read back from the texts in which they are told.
use Rattle.std.proofs.Common.{◌≡◌, ℕ, zero, suc, ◌==◌, ◌||◌, not, Bool, true, false, List, [], ◌∷◌, ◌++◌, map, refl, sym, ap, ◌∙◌, append_assoc, arith, inl, inr, Option, None, Some, true≢false}
use Rattle.std.specs.Prelude.{MatchResult, Result, Ok, Err, if◌then◌else◌, slice_index}
use Rattle.std.specs.List.{list_any}
use Rattle.std.proofs.lemmas.Bool.{and_parts, cases_Bool, cond-false, cond-true}
use Rattle.hex.specs.Hex.{IsBytes, decode_of, encode_with, upper_digits}
use Rattle.hex.specs.declared.error.FromHexError.{FromHexError}
use Rattle.hex.proofs.HexLemmas.{decode_of-encode_upper}
use Rattle.aa_bytes.specs.Quoting.{digits_of, is_shown}
use Rattle.aatry_questions.specs.Names.{backslash, byte_of, byte_written, escaped, escaped_byte, first_decoded, is_backslash, is_plain, letter_of_escape, unescaped, written_or}

-- what was decoded
pub decoded : (d : Result (List ℕ) FromHexError) (r : Result Unit FromHexError) (out : List ℕ)
    → MatchResult d (λ bytes. (r ≡ Ok tt) × (out ≡ bytes)) (λ e. r ≡ Err e) → r ≡ Ok tt → first_decoded d ≡ Some (slice_index out 0)
decoded (Ok bytes) r out h ok = ap (λ text. Some (slice_index text 0)) (sym h.1)
decoded (Err e) r out h ok = absurd (cc)

pub undecoded : (d : Result (List ℕ) FromHexError) (r : Result Unit FromHexError) (out : List ℕ) (e : FromHexError)
    → MatchResult d (λ bytes. (r ≡ Ok tt) × (out ≡ bytes)) (λ e. r ≡ Err e) → r ≡ Err e → first_decoded d ≡ None
undecoded (Ok bytes) r out e h bad = absurd (cc)
undecoded (Err other) r out e h bad = refl

-- four bytes of which the first is no backslash write none
unwritten : (a b c d : ℕ) → is_backslash a ≡ false → byte_written a b c d ≡ None
unwritten a b c d other = cond-false (is_backslash a) (if b == letter_of_escape then byte_of c d else None) None other

-- a byte that is no backslash stands as it is
pub plain-first : (a : ℕ) (rest : List ℕ) → is_backslash a ≡ false → unescaped (a ∷ rest) ≡ a ∷ unescaped rest
plain-first a [] other = refl
plain-first a (b ∷ []) other = refl
plain-first a (b ∷ c ∷ []) other = refl
plain-first a (b ∷ c ∷ d ∷ rest) other =
    ap (λ found. written_or found (a ∷ unescaped (b ∷ c ∷ d ∷ rest)) (unescaped rest)) (unwritten a b c d other)

-- a word without a backslash
or-left : (a b : Bool) → (a || b) ≡ false → a ≡ false
or-left true b h = h
or-left false b h = refl

or-right : (a b : Bool) → (a || b) ≡ false → b ≡ false
or-right true b h = absurd (true≢false h)
or-right false b h = h

pub plain-word : (word : List ℕ) → list_any is_backslash word ≡ false → unescaped word ≡ word
plain-word [] none = refl
plain-word (a ∷ rest) none =
    plain-first a rest (or-left (is_backslash a) (list_any is_backslash rest) none)
    ∙ ap (λ bytes. a ∷ bytes) (plain-word rest (or-right (is_backslash a) (list_any is_backslash rest) none))

-- the digits of a byte, read back
digits-read : (byte : ℕ) → IsBytes (byte ∷ []) → first_decoded (decode_of (digits_of byte)) ≡ Some byte
digits-read byte fit = ap first_decoded (decode_of-encode_upper (byte ∷ []) fit)

-- an escape, read back, whatever stands behind it
escape-read : (byte : ℕ) (rest : List ℕ) → IsBytes (byte ∷ [])
    → unescaped ((backslash ∷ letter_of_escape ∷ digits_of byte) ++ rest) ≡ byte ∷ unescaped rest
unfolding encode_with
escape-read byte rest fit =
    ap (λ found. written_or found (backslash ∷ unescaped (letter_of_escape ∷ digits_of byte ++ rest)) (unescaped rest)) (digits-read byte fit)

not-true : (b : Bool) → not b ≡ true → b ≡ false
not-true true h = sym h
not-true false h = refl

byte-read : (byte : ℕ) (rest : List ℕ) → IsBytes (byte ∷ []) → unescaped (escaped_byte byte ++ rest) ≡ byte ∷ unescaped rest
byte-read byte rest fit = elim (cases_Bool (is_plain byte)) [
  | inl plain ↦
      let other = not-true (is_backslash byte) (and_parts (is_shown byte) (not (is_backslash byte)) plain).1 in
      ap (λ bytes. unescaped (bytes ++ rest)) (cond-true (is_plain byte) (byte ∷ []) (backslash ∷ letter_of_escape ∷ digits_of byte) plain)
      ∙ plain-first byte rest other
  | inr unshown ↦
      ap (λ bytes. unescaped (bytes ++ rest)) (cond-false (is_plain byte) (byte ∷ []) (backslash ∷ letter_of_escape ∷ digits_of byte) unshown)
      ∙ escape-read byte rest fit
]

-- the first of bytes is one, and so are the others
first-byte : (byte : ℕ) (bytes : List ℕ) → IsBytes (byte ∷ bytes) → IsBytes (byte ∷ [])
first-byte byte bytes fit zero = fit 0
first-byte byte bytes fit (suc i) = omega arith

pub name-read : (name rest : List ℕ) → IsBytes name → unescaped (escaped name ++ rest) ≡ name ++ unescaped rest
name-read [] rest fit = refl
name-read (byte ∷ bytes) rest fit =
    ap unescaped (append_assoc (escaped_byte byte) (escaped bytes) rest)
    ∙ byte-read byte (escaped bytes ++ rest) (first-byte byte bytes fit)
    ∙ ap (λ behind. byte ∷ behind) (name-read bytes rest (λ i. fit (suc i)))

-- words without a backslash
pub plain-words : ((word : List ℕ) → list_any is_backslash word ≡ false → unescaped word ≡ word)
    → (words : List (List ℕ)) → list_any (list_any is_backslash) words ≡ false → map unescaped words ≡ words
plain-words plain [] none = refl
plain-words plain (word ∷ words) none =
    let first = or-left (list_any is_backslash word) (list_any (list_any is_backslash) words) none in
    let rest = or-right (list_any is_backslash word) (list_any (list_any is_backslash) words) none in
    ap (λ one. one ∷ map unescaped words) (plain word first) ∙ ap (λ more. word ∷ more) (plain-words plain words rest)
