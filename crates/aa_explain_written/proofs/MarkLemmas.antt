-- The pattern of one path as it stands between quotes: what it is read as.
use Rattle.std.proofs.Common.{◌≡◌, ℕ, suc, ◌+◌, ◌==◌, ◌&&◌, ◌||◌, Bool, true, false, not, List, [], ◌∷◌, ◌++◌, length, map, None, Some, refl, ap, ◌∙◌, arith, inl, inr}
use Rattle.std.specs.Prelude.{if◌then◌else◌}
use Rattle.std.specs.Option.{option_map}
use Rattle.std.proofs.lemmas.Bool.{cases_Bool, eqb-true, or_parts}
use Rattle.std.proofs.lemmas.Bool.Decides.{nat_tests}
use Rattle.aa_bytes.specs.Texts.{begins_with_byte, has_byte}
use Rattle.aa_bytes.specs.Bytes.{backslash, closing_brace, closing_bracket, comma, is_letter_or_digit, line_feed, opening_brace, opening_bracket, question_mark, quote, slash, star}
use Rattle.aa_text_tokens.specs.Cut.{before_quote}
use Rattle.aa_text_expansion.specs.Parts.{Byte as ByteOf, parts_behind}
use Rattle.aa_glob.specs.Laws.{bytes_pattern, needs_backslash, quoted}
use Rattle.aa_glob_syntax.specs.Elements.{Comma, Element, Single, context_after, elements}
use Rattle.aa_glob_syntax.specs.Items.{Byte}
use Rattle.aa_glob_syntax.specs.Reading.{Cut, Ended, onto, pieces}
use Rattle.aa_glob_syntax.specs.Items.{NoMore}
use Rattle.aa_glob_syntax.specs.Symbols.{symbols}
use Rattle.aa_glob_syntax.specs.declared.context.Context.{Context}
use Rattle.aa_glob_syntax.specs.declared.symbol.Symbol.{Symbol}
use Rattle.aa_glob_syntax.specs.declared.symbol.Symbol.TheVariants.{Plain}
use Rattle.aa_explain_written.specs.Quotes.{escaped_byte, needs_escape, quoted_behind}

-- a byte of a path, behind another, stands behind a backslash
abbrev pub is_marked : ℕ → ℕ → Bool
is_marked before b = needs_backslash b || needs_escape before b

-- the rest of a path, behind a byte, as it stands between quotes
abbrev pub marked : ℕ → List ℕ → List ℕ
marked before [] = []
marked before (b ∷ bs) = (if is_marked before b then backslash ∷ b ∷ [] else b ∷ []) ++ marked b bs

-- the tests of a byte that needs no backslash in a pattern
unmarked : (b : ℕ) → needs_backslash b ≡ false → ((b == backslash) ≡ false) × ((b == star) ≡ false) × ((b == opening_bracket) ≡ false) × ((b == question_mark) ≡ false) × ((b == opening_brace) ≡ false) × ((b == closing_brace) ≡ false)
unmarked b plain = (grind (arith, nat_tests), grind (arith, nat_tests), grind (arith, nat_tests), grind (arith, nat_tests), grind (arith, nat_tests), grind (arith, nat_tests))

-- the pattern of a path is so between quotes
pub quoted-marked : (before : ℕ) (path : List ℕ) → quoted_behind false before (quoted path) ≡ marked before path
quoted-marked before [] = refl
quoted-marked before (b ∷ bs) = elim (cases_Bool (needs_backslash b)) [
  | inl needs ↦ rw needs (ap (λ rest. backslash ∷ b ∷ rest) (quoted-marked b bs))
  | inr plain ↦ rw (plain, (unmarked b plain).0) (ap (λ rest. escaped_byte false before b ++ rest) (quoted-marked b bs))
]

-- a byte of a text in quotes, before others
before_quote-byte : (b : ℕ) (text rest : List ℕ) → (b == quote) ≡ false → (b == backslash) ≡ false → (b == line_feed) ≡ false
    → before_quote (b ∷ text ++ quote ∷ rest) ≡ option_map (λ n. n + 1) (before_quote (text ++ quote ∷ rest))
before_quote-byte b [] rest no_quote no_backslash no_end = rw (no_quote, no_end, no_backslash) refl
before_quote-byte b (c ∷ text) rest no_quote no_backslash no_end = rw (no_quote, no_end, no_backslash) refl

-- the tests of a byte that stands without a backslash
pub bare : (before b : ℕ) → is_marked before b ≡ false → (needs_backslash b ≡ false) × ((b == quote) ≡ false) × ((b == slash && before == slash) ≡ false)
bare before b h =
    let first = or_parts (needs_backslash b) (needs_escape before b) h in
    let second = or_parts (b == quote || b == closing_bracket) (b == slash && before == slash) first.1 in
    (first.0, (or_parts (b == quote) (b == closing_bracket) second.0).0, second.1)

-- a path between quotes is closed behind its own bytes, where no line feed stands in it
pub closed-marked : (before : ℕ) (path rest : List ℕ) → has_byte line_feed (marked before path) ≡ false
    → before_quote (marked before path ++ quote ∷ rest) ≡ Some (length (marked before path))
closed-marked before [] [] h = refl
closed-marked before [] (c ∷ rest) h = refl
closed-marked before (b ∷ bs) rest h = elim (cases_Bool (is_marked before b)) [
  | inl is ↦
      let more = or_parts (b == line_feed) (has_byte line_feed (marked b bs)) (rw is at h) in
      rw (is, more.0) (ap (option_map (λ n. n + 2)) (closed-marked b bs rest more.1) ∙ ap Some (let n = length (marked b bs) in let same : n + 2 ≡ suc (suc n) = omega arith in same))
  | inr not ↦
      let more = or_parts (b == line_feed) (has_byte line_feed (marked b bs)) (rw not at h) in
      let tests = bare before b not in
      rw not (before_quote-byte b (marked b bs) rest tests.1 (unmarked b tests.0).0 more.0
      ∙ ap (option_map (λ n. n + 1)) (closed-marked b bs rest more.1) ∙ ap Some (let n = length (marked b bs) in let same : n + 1 ≡ suc n = omega arith in same))
]

-- a path between quotes begins with no brace
first-marked : (before : ℕ) (path : List ℕ) → begins_with_byte opening_brace (marked before path) ≡ false
first-marked before [] = refl
first-marked before (b ∷ bs) = elim (cases_Bool (is_marked before b)) [
  | inl is ↦ rw is refl
  | inr not ↦ let tests = unmarked b (bare before b not).0 in rw not tests.4
]

-- a byte before what begins with no brace
parts-byte : (b : ℕ) (text : List ℕ) → (b == backslash) ≡ false → begins_with_byte opening_brace text ≡ false → parts_behind None (b ∷ text) ≡ ByteOf b ∷ parts_behind None text
parts-byte b [] no_backslash other = refl
parts-byte b (c ∷ text) no_backslash other = elim (cases_Bool (b == 64)) [
  | inl is ↦ rw (is, other, no_backslash) refl
  | inr not ↦ rw (not, no_backslash) refl
]

-- a path between quotes names no variable: each of its bytes is a part
pub parts-marked : (before : ℕ) (path : List ℕ) → parts_behind None (marked before path) ≡ map ByteOf (marked before path)
parts-marked before [] = refl
parts-marked before (b ∷ bs) = elim (cases_Bool (is_marked before b)) [
  | inl is ↦ rw is (ap (λ parts. ByteOf backslash ∷ ByteOf b ∷ parts) (parts-marked b bs))
  | inr not ↦ rw not (parts-byte b (marked b bs) (unmarked b (bare before b not).0).0 (first-marked b bs) ∙ ap (λ parts. ByteOf b ∷ parts) (parts-marked b bs))
]

-- an element of a path's pattern
abbrev pub element_of : ℕ → Element
element_of b = if b == comma then Comma else Single (Byte b)

-- what stands behind a backslash is no comma, no letter and no digit
marked-tests : (before b : ℕ) → is_marked before b ≡ true → (is_letter_or_digit b ≡ false) × ((b == comma) ≡ false)
marked-tests before b h = (grind (arith, nat_tests), grind (arith, nat_tests))

symbols-plain : (b : ℕ) (bs : List ℕ) → (b == backslash) ≡ false → symbols (b ∷ bs) ≡ Plain b ∷ symbols bs
symbols-plain b [] plain = rw plain refl
symbols-plain b (c ∷ bs) plain = rw plain refl

-- a byte that stands for itself in a pattern's text
elements-plain : (context : Context) (b : ℕ) (ls : List Symbol) → needs_backslash b ≡ false → elements context (Plain b ∷ ls) ≡ element_of b ∷ elements (context_after b) ls
elements-plain context b ls plain =
    let tests = unmarked b plain in
    elim (cases_Bool (b == comma)) [
      | inl is ↦ let same : b ≡ comma = eqb-true b comma is in rw same refl
      | inr not ↦ rw (tests.1, tests.2, tests.3, tests.4, not, tests.5) refl
    ]

-- a path between quotes is its bytes
pub elements-marked : (context : Context) (before : ℕ) (path : List ℕ) → elements context (symbols (marked before path)) ≡ map element_of path
elements-marked context before [] = refl
elements-marked context before (b ∷ bs) = elim (cases_Bool (is_marked before b)) [
  | inl is ↦ let tests = marked-tests before b is in rw (is, tests.0, tests.1) (ap (λ rest. Single (Byte b) ∷ rest) (elements-marked (context_after b) b bs))
  | inr not ↦
      let plain = (bare before b not).0 in
      rw (not, symbols-plain b (marked b bs) (unmarked b plain).0) (elements-plain context b (symbols (marked b bs)) plain ∙ ap (λ rest. element_of b ∷ rest) (elements-marked (context_after b) b bs))
]

pub pieces-path : (path : List ℕ) → pieces 0 (map element_of path) ≡ Cut (bytes_pattern path) NoMore Ended
pieces-path [] = refl
pieces-path (b ∷ bs) = elim (cases_Bool (b == comma)) [
  | inl is ↦ let same : b ≡ comma = eqb-true b comma is in rw same (ap (onto (Byte comma)) (pieces-path bs))
  | inr not ↦ rw not (ap (onto (Byte b)) (pieces-path bs))
]
