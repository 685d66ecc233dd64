-- What the texts of written rules are cut into.
use Rattle.std.proofs.Common.{◌≡◌, ℕ, suc, ◌+◌, ◌-◌, ◌==◌, ◌&&◌, ◌||◌, Bool, true, false, not, List, [], ◌∷◌, ◌++◌, length, take, None, Some, refl, sym, ap, ◌∙◌, arith, append_assoc, inl, inr, subst}
use Rattle.std.specs.Prelude.{codes}
use Rattle.std.specs.Option.{option_map}
use Rattle.std.specs.List.{list_all}
use Rattle.std.proofs.lemmas.Bool.{and_parts, cases_Bool, eqb-true}
use Rattle.std.proofs.lemmas.Bool.Decides.{nat_tests}
use Rattle.std.proofs.lemmas.List.{length-append}
use Rattle.std.proofs.Math.Seq.{take-append_seam}
use Rattle.aa_bytes.specs.Texts.{begins_with}
use Rattle.aa_bytes.specs.Bytes.{backslash, closing_brace, comma, hash, is_blank, opening_brace, quote}
use Rattle.aa_text_tokens.specs.Cut.{Piece, Seen, Token, assign, before_quote, before_tokens, cut, cut_on, ends_item, is_assign, is_name_byte, opening, piece, plain, word, word_left}
use Rattle.aa_text_tokens.specs.declared.cut.TokenKind.{TokenKind}
use Rattle.aa_text_tokens.specs.declared.cut.TokenKind.TheVariants.{CloseBrace, Comma, OpenBrace, Quoted, Word}
use Rattle.aa_explain_written.proofs.Spelling.{Bare, Spells, span_before}

-- bytes that belong to the token before are left out
cut-skip : (at : ℕ) (own rest : List ℕ) → cut at (length own) false (own ++ rest) ≡ cut (at + length own) 0 false rest
cut-skip at [] rest = let same : at ≡ at + 0 = omega arith in ap (λ k. cut k 0 false rest) same
cut-skip at (b ∷ bs) rest =
    let same : at + 1 + length bs ≡ at + suc (length bs) = omega arith in
    cut-skip (at + 1) bs rest ∙ ap (λ k. cut k 0 false rest) same

-- no text
pub spells-none : Spells [] []
spells-none at = ((λ index. (0, 0)), refl)

-- a blank before a text
spells-blank : (b : ℕ) (rest : List ℕ) (tokens : List Bare) → is_blank b ≡ true → Spells rest tokens → Spells (b ∷ rest) tokens
spells-blank b rest tokens blank more at =
    let (spans, same) = more (at + 1) in
    (spans, rw blank same)

-- a text of blanks before another
pub spells-blanks : (gap rest : List ℕ) (tokens : List Bare) → list_all is_blank gap ≡ true → Spells rest tokens → Spells (gap ++ rest) tokens
spells-blanks [] rest tokens blank more = more
spells-blanks (b ∷ bs) rest tokens blank more =
    let both = and_parts (is_blank b) (list_all is_blank bs) blank in
    spells-blank b (bs ++ rest) tokens both.0 (spells-blanks bs rest tokens both.1 more)

-- the cut where a token of so many bytes begins
cut-at : (at b : ℕ) (text : List ℕ) (p : Piece) → is_blank b ≡ false → piece b (b ∷ text) ≡ p
    → cut at 0 false (b ∷ text) ≡ cut_on at false p (λ left values. cut (at + 1) left values text)
cut-at at b text p black is_piece = rw black (ap (λ q. cut_on at false q (λ left values. cut (at + 1) left values text)) is_piece)

-- a token of this text before another
spells-token : (b : ℕ) (bs rest : List ℕ) (kind : TokenKind) (text : List ℕ) (tokens : List Bare) → is_blank b ≡ false
    → piece b (b ∷ bs ++ rest) ≡ Token kind text (suc (length bs)) → is_assign kind ≡ false → Spells rest tokens → Spells (b ∷ bs ++ rest) (record { kind = kind; text = text } ∷ tokens)
spells-token b bs rest kind text tokens black is_piece plain_kind more at =
    let (spans, same) = more (at + 1 + length bs) in
    let one : suc (length bs) - 1 ≡ length bs = omega arith in
    let token : Seen = record { kind = kind; text = text; start = at; end = at + suc (length bs) } in (
      span_before (at, at + suc (length bs)) spans,
      cut-at at b (bs ++ rest) _ black is_piece
          ∙ ap (λ left. before_tokens token (cut (at + 1) left (is_assign kind) (bs ++ rest))) one
          ∙ ap (λ values. before_tokens token (cut (at + 1) (length bs) values (bs ++ rest))) plain_kind
          ∙ ap (before_tokens token) (cut-skip (at + 1) bs rest ∙ same),
    )

-- a comma, and the braces
pub spells-comma : (rest : List ℕ) (tokens : List Bare) → Spells rest tokens → Spells (comma ∷ rest) (record { kind = Comma; text = comma ∷ [] } ∷ tokens)
spells-comma rest tokens more = spells-token comma [] rest Comma (comma ∷ []) tokens refl refl refl more

pub spells-open : (rest : List ℕ) (tokens : List Bare) → Spells rest tokens → Spells (opening_brace ∷ rest) (record { kind = OpenBrace; text = opening_brace ∷ [] } ∷ tokens)
spells-open rest tokens more = spells-token opening_brace [] rest OpenBrace (opening_brace ∷ []) tokens refl refl refl more

pub spells-close : (rest : List ℕ) (tokens : List Bare) → Spells rest tokens → Spells (closing_brace ∷ rest) (record { kind = CloseBrace; text = closing_brace ∷ [] } ∷ tokens)
spells-close rest tokens more = spells-token closing_brace [] rest CloseBrace (closing_brace ∷ []) tokens refl refl refl more

-- how a text in quotes is read
quoted-piece : (body rest : List ℕ) → before_quote (body ++ quote ∷ rest) ≡ Some (length body) → piece quote (quote ∷ body ++ quote ∷ rest) ≡ Token Quoted body (length body + 2)
quoted-piece body rest closed = rw closed (ap (λ text. Token Quoted text (length body + 2)) (take-append_seam body (quote ∷ rest)))

-- a text in quotes, where it is closed behind its own bytes
pub spells-quoted : (body rest : List ℕ) (tokens : List Bare) → before_quote (body ++ quote ∷ rest) ≡ Some (length body) → Spells rest tokens
    → Spells (quote ∷ body ++ quote ∷ rest) (record { kind = Quoted; text = body } ∷ tokens)
spells-quoted body rest tokens closed more =
    subst (λ text. Spells (quote ∷ text) (record { kind = Quoted; text = body } ∷ tokens)) (append_assoc body (quote ∷ []) rest)
    (spells-token quote (body ++ quote ∷ []) rest Quoted body tokens refl
    (ap (λ text. piece quote (quote ∷ text)) (append_assoc body (quote ∷ []) rest) ∙ quoted-piece body rest closed
    ∙ ap (Token Quoted body) (let long = length-append body (quote ∷ []) in omega (arith, long))) refl more)

-- A name: letters, digits and `_`, with which no Include begins.
abbrev pub is_name : List ℕ → Bool
is_name [] = false
is_name (b ∷ bs) = list_all is_name_byte (b ∷ bs) && not (begins_with (codes "include") (b ∷ bs))

-- what ends a word: a blank, or a comma behind which a blank or a closing brace stands
abbrev pub ends_name : List ℕ → Bool
ends_name [] = false
ends_name (b ∷ bs) = is_blank b || (b == comma && ends_item bs)

-- the tests of a name's byte
name_byte : (b : ℕ) → is_name_byte b ≡ true
    → (is_blank b ≡ false) × ((b == backslash) ≡ false) × ((b == comma) ≡ false) × ((b == opening_brace) ≡ false) × ((b == closing_brace) ≡ false) × ((b == quote) ≡ false) × ((b == hash) ≡ false) × ((b == 64) ≡ false)
name_byte b h = (grind (arith, nat_tests), grind (arith, nat_tests), grind (arith, nat_tests), grind (arith, nat_tests), grind (arith, nat_tests), grind (arith, nat_tests), grind (arith, nat_tests), grind (arith, nat_tests))

-- a byte of a name before another byte of a word
word_left-byte : (before b c : ℕ) (bs : List ℕ) → is_name_byte b ≡ true → word_left 0 before (b ∷ c ∷ bs) ≡ option_map (λ n. n + 1) (word_left 0 b (c ∷ bs))
word_left-byte before b c bs h = let tests = name_byte b h in rw (tests.0, tests.1, tests.2, tests.3, tests.4) refl

-- what ends a word ends it here
word_left-end : (before c : ℕ) (rest : List ℕ) → ends_name (c ∷ rest) ≡ true → word_left 0 before (c ∷ rest) ≡ Some 0
word_left-end before c [] h = elim (cases_Bool (is_blank c)) [
  | inl blank ↦ rw blank refl
  | inr black ↦
      let stop : (c == comma && true) ≡ true = rw black at h in
      let same : c ≡ comma = eqb-true c comma (and_parts (c == comma) true stop).0 in
      rw same refl
]
word_left-end before c (d ∷ rest) h = elim (cases_Bool (is_blank c)) [
  | inl blank ↦ rw blank refl
  | inr black ↦
      let stop : (c == comma && ends_item (d ∷ rest)) ≡ true = rw black at h in
      let both = and_parts (c == comma) (ends_item (d ∷ rest)) stop in
      let same : c ≡ comma = eqb-true c comma both.0 in
      rw (same, both.1) refl
]

-- the bytes of a name are all of the word that it begins
word_left-name : (before : ℕ) (name : List ℕ) (c : ℕ) (rest : List ℕ) → list_all is_name_byte name ≡ true → ends_name (c ∷ rest) ≡ true
    → word_left 0 before (name ++ c ∷ rest) ≡ Some (length name)
word_left-name before [] c rest each ends = word_left-end before c rest ends
word_left-name before (b ∷ []) c rest each ends =
    word_left-byte before b c rest (and_parts (is_name_byte b) true each).0 ∙ ap (option_map (λ n. n + 1)) (word_left-end b c rest ends)
word_left-name before (b ∷ d ∷ bs) c rest each ends =
    let both = and_parts (is_name_byte b) (list_all is_name_byte (d ∷ bs)) each in
    let same : suc (length bs) + 1 ≡ suc (suc (length bs)) = omega arith in
    word_left-byte before b d (bs ++ c ∷ rest) both.0 ∙ ap (option_map (λ n. n + 1)) (word_left-name b (d ∷ bs) c rest both.1 ends) ∙ ap Some same

pub not-true : (t : Bool) → not t ≡ true → t ≡ false
not-true true h = absurd (cc)
not-true false h = refl

-- a text begins with a front of names alone where a name does that stands before something else
begins-name : (front name : List ℕ) (c : ℕ) (rest : List ℕ) → list_all is_name_byte front ≡ true → is_name_byte c ≡ false
    → begins_with front (name ++ c ∷ rest) ≡ begins_with front name
begins-name [] name c rest each other = refl
begins-name (f ∷ fs) [] c rest each other = elim (cases_Bool (c == f)) [
  | inl is ↦
      let same : c ≡ f = eqb-true c f is in
      let there : false ≡ true = sym other ∙ ap is_name_byte same ∙ (and_parts (is_name_byte f) (list_all is_name_byte fs) each).0 in
      absurd cc
  | inr not ↦ rw not refl
]
begins-name (f ∷ fs) (b ∷ bs) c rest each other =
    ap (λ t. (b == f) && t) (begins-name fs bs c rest (and_parts (is_name_byte f) (list_all is_name_byte fs) each).1 other)

-- what ends a name is no byte of one
end-other : (c : ℕ) (rest : List ℕ) → ends_name (c ∷ rest) ≡ true → is_name_byte c ≡ false
end-other c rest h = elim (cases_Bool (is_name_byte c)) [
  | inr not ↦ not
  | inl is ↦ let tests = name_byte c is in let there : false ≡ true = rw (tests.0, tests.2) at h in absurd cc
]

-- no Include and no Assign begins with a name
opening-name : (b : ℕ) (bs : List ℕ) (c : ℕ) (rest : List ℕ) → is_name (b ∷ bs) ≡ true → ends_name (c ∷ rest) ≡ true → opening (b ∷ bs ++ c ∷ rest) ≡ None
opening-name b bs c rest h ends =
    let both = and_parts (list_all is_name_byte (b ∷ bs)) (not (begins_with (codes "include") (b ∷ bs))) h in
    let first = and_parts (is_name_byte b) (list_all is_name_byte bs) both.0 in
    let tests = name_byte b first.0 in
    let none : begins_with (codes "include") (b ∷ bs ++ c ∷ rest) ≡ false =
    begins-name (codes "include") (b ∷ bs) c rest refl (end-other c rest ends) ∙ not-true _ both.1 in
    rw (none, tests.6) refl

-- what is no Include and no Assign
piece-plain : (b : ℕ) (text : List ℕ) → opening text ≡ None → assign text ≡ None → piece b text ≡ plain b text
piece-plain b text no_include no_assign = rw (no_include, piece) (rw (no_assign) refl)

-- no Assign begins with another byte than `@`
assign-none : (b : ℕ) (text : List ℕ) → (b == 64) ≡ false → assign (b ∷ text) ≡ None
assign-none b text h = rw h refl

-- a word of so many bytes
word-of : (text : List ℕ) (size : ℕ) → word_left 0 0 text ≡ Some size → word text ≡ Token Word (take size text) size
word-of text size left = rw (left, word) refl

-- a name is read as a word
name-piece : (b : ℕ) (bs : List ℕ) (c : ℕ) (rest : List ℕ) → is_name (b ∷ bs) ≡ true → ends_name (c ∷ rest) ≡ true
    → piece b (b ∷ bs ++ c ∷ rest) ≡ Token Word (b ∷ bs) (suc (length bs))
name-piece b bs c rest h ends =
    let both = and_parts (list_all is_name_byte (b ∷ bs)) (not (begins_with (codes "include") (b ∷ bs))) h in
    let tests = name_byte b (and_parts (is_name_byte b) (list_all is_name_byte bs) both.0).0 in
    let left = word_left-name 0 (b ∷ bs) c rest both.0 ends in
    let text = b ∷ bs ++ c ∷ rest in
    let is_word : plain b text ≡ word text = rw (tests.6, tests.5, tests.2, tests.3, tests.4) refl in
    piece-plain b text (opening-name b bs c rest h ends) (assign-none b (bs ++ c ∷ rest) tests.7) ∙ is_word
    ∙ word-of text (suc (length bs)) left ∙ ap (λ own. Token Word own (suc (length bs))) (take-append_seam (b ∷ bs) (c ∷ rest))

-- a name before what ends it
pub spells-name : (name rest : List ℕ) (tokens : List Bare) → is_name name ≡ true → ends_name rest ≡ true → Spells rest tokens
    → Spells (name ++ rest) (record { kind = Word; text = name } ∷ tokens)
spells-name [] rest tokens h ends more = absurd (cc)
spells-name (b ∷ bs) [] tokens h ends more = absurd (cc)
spells-name (b ∷ bs) (c ∷ rest) tokens h ends more =
    let both = and_parts (list_all is_name_byte (b ∷ bs)) (not (begins_with (codes "include") (b ∷ bs))) h in
    let tests = name_byte b (and_parts (is_name_byte b) (list_all is_name_byte bs) both.0).0 in
    spells-token b bs (c ∷ rest) Word (b ∷ bs) tokens tests.0 (name-piece b bs c rest h ends) refl more
