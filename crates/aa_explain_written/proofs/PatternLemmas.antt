-- The pattern of one path as it stands between quotes: what a file makes of it.
use Rattle.std.proofs.Common.{◌≡◌, ℕ, ◌≤◌, ◌==◌, ◌&&◌, Bool, true, false, not, List, [], ◌∷◌, length, map, Ok, refl, ap, ◌∙◌, inl, inr, nat_le}
use Rattle.std.specs.List.{list_any}
use Rattle.std.proofs.lemmas.Bool.{cases_Bool, eqb-true, le-leb, or_parts}
use Rattle.aa_bytes.specs.Bytes.{slash}
use Rattle.aa_bytes.specs.Texts.{begins_with_byte, has_byte}
use Rattle.aa_glob.specs.Laws.{bytes_of, bytes_pattern, needs_backslash, quoted}
use Rattle.aa_glob_syntax.specs.Exactness.{is_exact}
use Rattle.aa_glob_syntax.specs.Reading.{HasNoFirstFault, begins_with_slash, longest, pieces, reading, whole}
use Rattle.aa_glob_syntax.specs.Elements.{elements}
use Rattle.aa_glob_syntax.specs.Symbols.{symbols}
use Rattle.aa_glob_syntax.specs.declared.context.Context.TheVariants.{Elsewhere}
use Rattle.aa_text_expansion.specs.Choices.{choices}
use Rattle.aa_text_expansion.specs.Parts.{Byte as ByteOf}
use Rattle.aa_text_variables.specs.Expansions.{expansions, values}
use Rattle.aa_text_variables.specs.Variables.{is_undefined, names_undefined}
use Rattle.aa_glob_syntax.specs.Slashes.{collapsed}
use Rattle.aa_explain_written.proofs.MarkLemmas.{bare, elements-marked, is_marked, marked, parts-marked, pieces-path}

and-true : (t : Bool) → (t && true) ≡ false → t ≡ false
and-true true h = h
and-true false h = refl

-- behind a slash stands no slash without a backslash
behind-slash : (path : List ℕ) → begins_with_byte slash (marked slash path) ≡ false
behind-slash [] = refl
behind-slash (c ∷ cs) = elim (cases_Bool (is_marked slash c)) [
  | inl here ↦ rw here refl
  | inr none ↦ rw none (and-true (c == slash) (bare slash c none).2)
]

slash-first : (b : ℕ) (path : List ℕ) → (b == slash && begins_with_byte slash (marked b path)) ≡ false
slash-first b path = elim (cases_Bool (b == slash)) [
  | inr none ↦ rw none refl
  | inl is ↦ let same : b ≡ slash = eqb-true b slash is in rw same (behind-slash path)
]

collapsed-byte : (b : ℕ) (text : List ℕ) → (b == slash && begins_with_byte slash text) ≡ false → collapsed (b ∷ text) ≡ b ∷ collapsed text
collapsed-byte b text h = rw h refl

-- no slashes stand in a row
pub collapsed-marked : (before : ℕ) (path : List ℕ) → collapsed (marked before path) ≡ marked before path
collapsed-marked before [] = refl
collapsed-marked before (b ∷ bs) = elim (cases_Bool (is_marked before b)) [
  | inl is ↦ rw is (ap (λ text. 92 ∷ text) (collapsed-byte b (marked b bs) (slash-first b bs) ∙ ap (λ text. b ∷ text) (collapsed-marked b bs)))
  | inr not ↦ rw not (collapsed-byte b (marked b bs) (slash-first b bs) ∙ ap (λ text. b ∷ text) (collapsed-marked b bs))
]

-- bytes alone have themselves as their one choice
choices-bytes : (values : List ℕ → List (List ℕ)) (text : List ℕ) → choices values (map ByteOf text) ≡ text ∷ []
choices-bytes values [] = refl
choices-bytes values (b ∷ bs) = ap (map (λ rest. b ∷ rest)) (choices-bytes values bs)

undefined-bytes : (text : List ℕ) → list_any (is_undefined []) (map ByteOf text) ≡ false
undefined-bytes [] = refl
undefined-bytes (b ∷ bs) = undefined-bytes bs

-- a path between quotes has itself as its one expansion
pub expansions-marked : (path : List ℕ) → expansions [] (marked 0 path) ≡ marked 0 path ∷ []
expansions-marked path = ap (choices (values [])) (parts-marked 0 path) ∙ choices-bytes (values []) (marked 0 path)

-- and names no variable
pub defined-marked : (path : List ℕ) → names_undefined [] (marked 0 path) ≡ false
defined-marked path = ap (list_any (is_undefined [])) (parts-marked 0 path) ∙ undefined-bytes (marked 0 path)

-- no zero byte stands in a path whose pattern has none
zero-path : (path : List ℕ) → has_byte 0 (quoted path) ≡ false → has_byte 0 path ≡ false
zero-path [] h = refl
zero-path (b ∷ bs) h = elim (cases_Bool (needs_backslash b)) [
  | inl needs ↦ let both = or_parts (b == 0) (has_byte 0 (quoted bs)) (rw needs at h) in rw both.0 (zero-path bs both.1)
  | inr plain ↦ let both = or_parts (b == 0) (has_byte 0 (quoted bs)) (rw plain at h) in rw both.0 (zero-path bs both.1)
]

zero-marked : (before : ℕ) (path : List ℕ) → has_byte 0 path ≡ false → has_byte 0 (marked before path) ≡ false
zero-marked before [] h = refl
zero-marked before (b ∷ bs) h =
    let both = or_parts (b == 0) (has_byte 0 bs) h in
    elim (cases_Bool (is_marked before b)) [
      | inl is ↦ rw (is, both.0) (zero-marked b bs both.1)
      | inr not ↦ rw (not, both.0) (zero-marked b bs both.1)
    ]

slash-marked : (path : List ℕ) → begins_with_slash (quoted path) ≡ true → begins_with_slash (marked 0 path) ≡ true
slash-marked [] h = h
slash-marked (b ∷ bs) h = elim (cases_Bool (needs_backslash b)) [
  | inl needs ↦ let there : false ≡ true = rw needs at h in absurd cc
  | inr plain ↦ let is : b ≡ slash = eqb-true b slash (rw plain at h) in rw is refl
]

-- it has none of the faults that are told first, where its pattern has none and it isn't too long
pub fine-marked : (path : List ℕ) → HasNoFirstFault (quoted path) → length (marked 0 path) ≤ longest → HasNoFirstFault (marked 0 path)
fine-marked path fine fits = (fits, zero-marked 0 path (zero-path path fine.1), slash-marked path fine.2)

reading-whole : (text : List ℕ) → HasNoFirstFault text → reading text ≡ whole (pieces 0 (elements Elsewhere (symbols text)))
reading-whole text fine = let short : nat_le (length text) longest ≡ true = le-leb (length text) longest fine.0 in rw (short, fine.1, fine.2) refl

-- it reads as the bytes of the path
pub reading-marked : (path : List ℕ) → HasNoFirstFault (marked 0 path) → reading (marked 0 path) ≡ Ok (bytes_pattern path)
reading-marked path fine = reading-whole (marked 0 path) fine ∙ ap (λ es. whole (pieces 0 es)) (elements-marked Elsewhere 0 path) ∙ ap whole (pieces-path path)

-- bytes are exact
pub exact-bytes : (path : List ℕ) → is_exact (bytes_pattern path) ≡ true
exact-bytes [] = refl
exact-bytes (b ∷ bs) = exact-bytes bs

pub bytes-again : (path : List ℕ) → bytes_of (bytes_pattern path) ≡ path
bytes-again [] = refl
bytes-again (b ∷ bs) = ap (λ rest. b ∷ rest) (bytes-again bs)
