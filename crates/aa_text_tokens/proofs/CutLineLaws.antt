-- A text is cut line by line, and values stand behind the Assign of their line.
use Rattle.std.proofs.Common.{◌≡◌, ℕ, Bool, true, false, not, ◌||◌, ◌&&◌, ◌==◌, List, [], ◌∷◌, ◌+◌, ◌-◌, ◌≤◌, zero, suc, length, get_or, take, drop, arith, refl, sym, ap, subst, ◌∙◌, Result, Ok, Err}
use Rattle.std.specs.Prelude.{Option, None, Some, codes}
use Rattle.std.specs.List.{prefix_len}
use Rattle.std.proofs.lemmas.Bool.{eqb-true}
use Rattle.std.proofs.lemmas.List.{drop-append-le, length-drop}
use Rattle.std.proofs.lemmas.List.Sums.{prefix_len-le-length}
use Rattle.aa_bytes.specs.Texts.{begins, begins_with}
use Rattle.aa_bytes.specs.Bytes.{closing_brace, comma, hash, is_blank, is_letter, line_feed, opening_brace, quote}
use Rattle.aa_text_tokens.specs.Cut.{Comment, Fault, Piece, Seen, Token, assign, before_quote, before_tokens, closing, cut, include_from, is_assign, opening, piece, piece_at, plain, quoted, spaces, value_piece, word, word_left, is_name_byte}
use Rattle.aa_text_tokens.specs.CutLaws.{followed_by, has_line_feed, is_value, AreValuesPlaced}
use Rattle.aa_text_tokens.specs.code.Tokens.{with_tokens}
use Rattle.aa_text_tokens.specs.declared.include.Opening.{Opening}
use Rattle.aa_text_tokens.specs.declared.cut.CutRefusal.{CutRefusal}
use Rattle.aa_text_tokens.specs.declared.cut.TokenKind.{TokenKind}
use Rattle.aa_text_tokens.specs.declared.cut.TokenKind.TheVariants.{Assign, Value, Quoted}
use Rattle.aa_text_tokens.proofs.CutLemmas.{cut-behind, cut-piece}
use Rattle.aa_text_tokens.proofs.CutLaws.{before-ok, line_size-more, no_tokens}
use Rattle.aa_text_tokens.proofs.LineLaws.{and-none, line, piece_at-line}
use Rattle.aa_text_tokens.proofs.PieceLaws.{line_size, piece_at-fits, Fits}

-- ---- line by line

-- what follows nothing
followed-none : (more : Result (List Seen) (CutRefusal × ℕ)) → more ≡ with_tokens [] more
followed-none (Ok tokens) = refl
followed-none (Err fault) = refl

-- a token before a text, and what follows that
followed-token : (token : Seen) (r more : Result (List Seen) (CutRefusal × ℕ)) → before_tokens token (followed_by r more) ≡ followed_by (before_tokens token r) more
followed-token token (Ok tokens) (Ok others) = refl
followed-token token (Ok tokens) (Err fault) = refl
followed-token token (Err fault) more = refl

-- a comment has a byte, and no more than its text
comment-long : (b : ℕ) (bs : List ℕ) (size : ℕ) → Fits (b ∷ bs) (Comment size) → (1 ≤ size) × (size ≤ length (b ∷ bs))
comment-long b bs size fits =
    let hashed : b ≡ hash = eqb-true b hash fits.0 in
    let other : (b == line_feed) ≡ false = rw hashed refl in
    let long : size ≡ suc (line_size bs) = fits.1 ∙ line_size-more b bs other in
    let within : line_size bs ≤ length bs = prefix_len-le-length (λ b. not (b == line_feed)) bs in
    (omega arith, omega arith)

module _ (rest : List ℕ) where
  -- a text is cut up to a line feed as if it ended there, and what follows as if it began there
  pub cut-lines : (most at : ℕ) (values : Bool) (text : List ℕ) → length text ≤ most
      → cut at 0 values (line rest text) ≡ followed_by (cut at 0 values text) (cut (at + length text + 1) 0 false rest)
  cut-lines most at values [] few =
      let next : at + 1 ≡ at + 0 + 1 = omega arith in
      ap (λ v. cut (at + 1) 0 v rest) (and-none values) ∙ ap (λ n. cut n 0 false rest) next ∙ followed-none (cut (at + 0 + 1) 0 false rest)
  cut-lines zero at values (b ∷ bs) few = absurd (omega arith)
  cut-lines (suc most) at values (b ∷ bs) few = by (is_blank b) refl (cut-lines most)
    where
      behind : ((at : ℕ) (values : Bool) (text : List ℕ) → length text ≤ most → cut at 0 values (line rest text) ≡ followed_by (cut at 0 values text) (cut (at + length text + 1) 0 false rest))
          → (size : ℕ) (follow : Bool) → 1 ≤ size → size ≤ length (b ∷ bs)
          → cut (at + 1) (size - 1) follow (line rest bs) ≡ followed_by (cut (at + 1) (size - 1) follow bs) (cut (at + length (b ∷ bs) + 1) 0 false rest)
      behind more size follow some within =
          let full : length (b ∷ bs) ≡ suc (length bs) = omega arith in
          let left : length (drop size (b ∷ bs)) ≤ most = omega (arith, length-drop size (b ∷ bs)) in
          let next : at + size + length (drop size (b ∷ bs)) + 1 ≡ at + length (b ∷ bs) + 1 = omega (arith, length-drop size (b ∷ bs)) in
          cut-behind at size follow b (line rest bs) some
          ∙ ap (cut (at + size) 0 follow) (drop-append-le size (b ∷ bs) (line_feed ∷ rest) within)
          ∙ more (at + size) follow (drop size (b ∷ bs)) left
          ∙ ap (λ n. followed_by (cut (at + size) 0 follow (drop size (b ∷ bs))) (cut n 0 false rest)) next
          ∙ ap (λ r. followed_by r (cut (at + length (b ∷ bs) + 1) 0 false rest)) (sym (cut-behind at size follow b bs some))

      on : is_blank b ≡ false
          → ((at : ℕ) (values : Bool) (text : List ℕ) → length text ≤ most → cut at 0 values (line rest text) ≡ followed_by (cut at 0 values text) (cut (at + length text + 1) 0 false rest))
          → (p : Piece) → p ≡ piece_at values (b ∷ bs) → Fits (b ∷ bs) p
          → cut at 0 values (line rest (b ∷ bs)) ≡ followed_by (cut at 0 values (b ∷ bs)) (cut (at + length (b ∷ bs) + 1) 0 false rest)
      on black more (Token kind own size) e fits =
          let some : 1 ≤ size = fits.0 in
          let within : size ≤ length (b ∷ bs) = fits.1 in
          let follow = values || is_assign kind in
          let token : Seen = record { kind = kind; text = own; start = at; end = at + size } in
          cut-piece at values b (line rest bs) (Token kind own size) (sym black) (e ∙ sym (piece_at-line rest values (b ∷ bs)))
          ∙ ap (before_tokens token) (behind more size follow some within)
          ∙ followed-token token (cut (at + 1) (size - 1) follow bs) (cut (at + length (b ∷ bs) + 1) 0 false rest)
          ∙ ap (λ r. followed_by r (cut (at + length (b ∷ bs) + 1) 0 false rest)) (sym (cut-piece at values b bs (Token kind own size) (sym black) e))
      on black more (Comment size) e fits =
          let long = comment-long b bs size fits in
          cut-piece at values b (line rest bs) (Comment size) (sym black) (e ∙ sym (piece_at-line rest values (b ∷ bs)))
          ∙ behind more size values long.0 long.1
          ∙ ap (λ r. followed_by r (cut (at + length (b ∷ bs) + 1) 0 false rest)) (sym (cut-piece at values b bs (Comment size) (sym black) e))
      on black more (Fault refusal) e fits =
          cut-piece at values b (line rest bs) (Fault refusal) (sym black) (e ∙ sym (piece_at-line rest values (b ∷ bs)))
          ∙ ap (λ r. followed_by r (cut (at + length (b ∷ bs) + 1) 0 false rest)) (sym (cut-piece at values b bs (Fault refusal) (sym black) e))

      by : (t : Bool) → is_blank b ≡ t
          → ((at : ℕ) (values : Bool) (text : List ℕ) → length text ≤ most → cut at 0 values (line rest text) ≡ followed_by (cut at 0 values text) (cut (at + length text + 1) 0 false rest))
          → cut at 0 values (line rest (b ∷ bs)) ≡ followed_by (cut at 0 values (b ∷ bs)) (cut (at + length (b ∷ bs) + 1) 0 false rest)
      by true e more =
          let follow = values && not (b == line_feed) in
          let next : at + 1 + length bs + 1 ≡ at + length (b ∷ bs) + 1 = omega arith in
          let whole : cut at 0 values (line rest (b ∷ bs)) ≡ cut (at + 1) 0 follow (line rest bs) = rw e refl in
          let part : cut at 0 values (b ∷ bs) ≡ cut (at + 1) 0 follow bs = rw e refl in
          whole ∙ more (at + 1) follow bs (omega arith)
          ∙ ap (λ n. followed_by (cut (at + 1) 0 follow bs) (cut n 0 false rest)) next
          ∙ ap (λ r. followed_by r (cut (at + length (b ∷ bs) + 1) 0 false rest)) (sym part)
      by false e more = on e more (piece_at values (b ∷ bs)) refl (piece_at-fits values b bs e)

-- ---- values

-- a token is a value where values stand, and none elsewhere
abbrev IsPlaced : Bool → Piece → Type 0
IsPlaced values (Token kind own size) = is_value kind ≡ values
IsPlaced values (Comment size) = Unit {0}
IsPlaced values (Fault refusal) = Unit {0}

-- a text in quotes is of its kind
quoted-placed : (values : Bool) (kind : TokenKind) (text : List ℕ) → is_value kind ≡ values → IsPlaced values (quoted kind text)
quoted-placed values kind text h = by (before_quote (drop 1 text)) refl
  where
    by : (found : Option ℕ) → before_quote (drop 1 text) ≡ found → IsPlaced values (quoted kind text)
    by None e = rw (e, quoted) tt
    by (Some n) e = rw (e, quoted) h

-- a word is no value
word-placed : (text : List ℕ) → IsPlaced false (word text)
word-placed text = by (word_left 0 0 text) refl
  where
    by : (found : Option ℕ) → word_left 0 0 text ≡ found → IsPlaced false (word text)
    by None e = rw (e, word) tt
    by (Some n) e = rw (e, word) refl

-- nor is what is no Include and no Assign
plain-placed : (b : ℕ) (text : List ℕ) → IsPlaced false (plain b text)
plain-placed b text = by (b == hash) refl (b == quote) refl (b == comma) refl (b == opening_brace) refl (b == closing_brace) refl
  where
    by : (h : Bool) → (b == hash) ≡ h → (q : Bool) → (b == quote) ≡ q → (c : Bool) → (b == comma) ≡ c → (o : Bool) → (b == opening_brace) ≡ o
        → (d : Bool) → (b == closing_brace) ≡ d → IsPlaced false (plain b text)
    by true e q f c g o i d j = rw (e, plain) tt
    by false e true f c g o i d j = rw (e, f, plain) (quoted-placed false Quoted text refl)
    by false e false f true g o i d j = rw (e, f, g, plain) refl
    by false e false f false g true i d j = rw (e, f, g, i, plain) refl
    by false e false f false g false i true j = rw (e, f, g, i, j, plain) refl
    by false e false f false g false i false j = rw (e, f, g, i, j, plain) (word-placed text)

-- where values stand, each token is one
value-placed : (b : ℕ) (text : List ℕ) → IsPlaced true (value_piece b text)
value-placed b text = by (b == hash) refl (b == quote) refl
  where
    by : (h : Bool) → (b == hash) ≡ h → (q : Bool) → (b == quote) ≡ q → IsPlaced true (value_piece b text)
    by true e q f = rw (e, value_piece) tt
    by false e true f = rw (e, f, value_piece) (quoted-placed true Value text refl)
    by false e false f = rw (e, f, value_piece) refl

-- an Include is no value
include-placed : (text : List ℕ) (o : Opening) → IsPlaced false (include_from text o)
include-placed text o = by (begins (λ b. b == close) (drop size behind)) refl
  where
    close : ℕ
    close = closing (get_or text o.at 0)

    behind : List ℕ
    behind = drop (o.at + 1) text

    size : ℕ
    size = prefix_len (λ b. not (b == close) && not (b == line_feed)) behind

    by : (t : Bool) → begins (λ b. b == close) (drop size behind) ≡ t → IsPlaced false (include_from text o)
    by true e = rw (e, include_from) refl
    by false e = rw (e, include_from) tt

-- nor is an Assign
assign-placed : (text : List ℕ) (p : Piece) → assign text ≡ Some p → IsPlaced false p
assign-placed text p h =
    by (begins_with (codes "@{") text && begins is_letter (drop 2 text) && begins (λ b. b == closing_brace) (drop end text)) refl
    (begins_with (codes "=") (drop sign text)) refl (begins_with (codes "+=") (drop sign text)) refl
  where
    name_of : List ℕ
    name_of = take (prefix_len is_name_byte (drop 2 text)) (drop 2 text)

    end : ℕ
    end = 2 + prefix_len is_name_byte (drop 2 text)

    sign : ℕ
    sign = end + 1 + spaces (drop (end + 1) text)

    by : (name : Bool) → (begins_with (codes "@{") text && begins is_letter (drop 2 text) && begins (λ b. b == closing_brace) (drop end text)) ≡ name
        → (sets : Bool) → begins_with (codes "=") (drop sign text) ≡ sets → (adds : Bool) → begins_with (codes "+=") (drop sign text) ≡ adds → IsPlaced false p
    by true e true f adds g =
        let there : Some (Token (Assign false) name_of (sign + 1)) ≡ Some p = rw (e, f) at h in
        let same : p ≡ Token (Assign false) name_of (sign + 1) = cc in
        rw same refl
    by true e false f true g =
        let there : Some (Token (Assign true) name_of (sign + 2)) ≡ Some p = rw (e, f, g) at h in
        let same : p ≡ Token (Assign true) name_of (sign + 2) = cc in
        rw same refl
    by true e false f false g = let there : None ≡ Some p = rw (e, f, g) at h in absurd cc
    by false e sets f adds g = let there : None ≡ Some p = rw e at h in absurd cc

-- nor is anything else outside of values
piece-placed : (b : ℕ) (text : List ℕ) → IsPlaced false (piece b text)
piece-placed b text = by (opening text) refl (assign text) refl
  where
    by : (o : Option Opening) → opening text ≡ o → (a : Option Piece) → assign text ≡ a → IsPlaced false (piece b text)
    by (Some o) e a f = rw (e, piece) (include-placed text o)
    by None e (Some p) f = rw (e, f, piece) (assign-placed text p f)
    by None e None f = rw (e, f, piece) (plain-placed b text)

-- what stands anywhere
piece_at-placed : (values : Bool) (b : ℕ) (bs : List ℕ) → IsPlaced values (piece_at values (b ∷ bs))
piece_at-placed true b bs = value-placed b (b ∷ bs)
piece_at-placed false b bs = piece-placed b (b ∷ bs)

-- what is left of a line has no line feed either
line-drop : (n : ℕ) (text : List ℕ) → has_line_feed text ≡ false → has_line_feed (drop n text) ≡ false
line-drop zero text h = h
line-drop (suc n) [] h = refl
line-drop (suc n) (b ∷ bs) h = by (b == line_feed) refl (line-drop n bs)
  where
    by : (t : Bool) → (b == line_feed) ≡ t → (has_line_feed bs ≡ false → has_line_feed (drop n bs) ≡ false) → has_line_feed (drop n bs) ≡ false
    by true e more = let there : true ≡ false = rw e at h in absurd cc
    by false e more = more (rw e at h)

-- nor does its first byte end it
line-first : (b : ℕ) (bs : List ℕ) → has_line_feed (b ∷ bs) ≡ false → (values : Bool) → (values && not (b == line_feed)) ≡ values
line-first b bs h values = by (b == line_feed) refl values
  where
    by : (t : Bool) → (b == line_feed) ≡ t → (values : Bool) → (values && not (b == line_feed)) ≡ values
    by true e values = let there : true ≡ false = rw e at h in absurd cc
    by false e true = rw e refl
    by false e false = refl

-- in a line values stand behind an Assign, and nothing else does
pub values-placed : (most at : ℕ) (values : Bool) (text : List ℕ) (tokens : List Seen) → length text ≤ most → has_line_feed text ≡ false → cut at 0 values text ≡ Ok tokens
    → AreValuesPlaced values tokens
values-placed most at values [] [] few alone h = tt
values-placed most at values [] (token ∷ tokens) few alone h = absurd cc
values-placed zero at values (b ∷ bs) tokens few alone h = absurd (omega arith)
values-placed (suc most) at values (b ∷ bs) tokens few alone h = by (is_blank b) refl (values-placed most)
  where
    on : is_blank b ≡ false
        → ((at : ℕ) (values : Bool) (text : List ℕ) (tokens : List Seen) → length text ≤ most → has_line_feed text ≡ false → cut at 0 values text ≡ Ok tokens → AreValuesPlaced values tokens)
        → (p : Piece) → p ≡ piece_at values (b ∷ bs) → Fits (b ∷ bs) p → IsPlaced values p → AreValuesPlaced values tokens
    on black more (Token kind own size) e fits placed =
        let some : 1 ≤ size = fits.0 in
        let left : length (drop size (b ∷ bs)) ≤ most = let full : length (b ∷ bs) ≡ suc (length bs) = omega arith in omega (arith, length-drop size (b ∷ bs)) in
        let follow = values || is_assign kind in
        let token : Seen = record { kind = kind; text = own; start = at; end = at + size } in
        let all : before_tokens token (cut (at + size) 0 follow (drop size (b ∷ bs))) ≡ Ok tokens =
        ap (before_tokens token) (sym (cut-behind at size follow b bs some)) ∙ sym (cut-piece at values b bs (Token kind own size) (sym black) e) ∙ h
        in
        let found = before-ok token (cut (at + size) 0 follow (drop size (b ∷ bs))) tokens all in
        subst (AreValuesPlaced values) (sym found.2) (placed, more (at + size) follow (drop size (b ∷ bs)) found.0 left (line-drop size (b ∷ bs) alone) found.1)
    on black more (Comment size) e fits placed =
        let some : 1 ≤ size = (comment-long b bs size fits).0 in
        let left : length (drop size (b ∷ bs)) ≤ most = let full : length (b ∷ bs) ≡ suc (length bs) = omega arith in omega (arith, length-drop size (b ∷ bs)) in
        more (at + size) values (drop size (b ∷ bs)) tokens left (line-drop size (b ∷ bs) alone)
        (sym (cut-behind at size values b bs some) ∙ sym (cut-piece at values b bs (Comment size) (sym black) e) ∙ h)
    on black more (Fault refusal) e fits placed = absurd (no_tokens (refusal, at) tokens (sym (cut-piece at values b bs (Fault refusal) (sym black) e) ∙ h))

    by : (t : Bool) → is_blank b ≡ t
        → ((at : ℕ) (values : Bool) (text : List ℕ) (tokens : List Seen) → length text ≤ most → has_line_feed text ≡ false → cut at 0 values text ≡ Ok tokens → AreValuesPlaced values tokens)
        → AreValuesPlaced values tokens
    by true e more =
        let there : cut (at + 1) 0 (values && not (b == line_feed)) bs ≡ Ok tokens = rw e at h in
        more (at + 1) values bs tokens (omega arith) (line-drop 1 (b ∷ bs) alone) (ap (λ v. cut (at + 1) 0 v bs) (sym (line-first b bs alone values)) ∙ there)
    by false e more = on e more (piece_at values (b ∷ bs)) refl (piece_at-fits values b bs e) (piece_at-placed values b bs)
