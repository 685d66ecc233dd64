-- A piece does not depend on what stands behind a line feed.
use Rattle.std.proofs.Common.{◌≡◌, ℕ, Bool, true, false, not, ◌||◌, ◌&&◌, ◌==◌, List, [], ◌∷◌, ◌++◌, ◌+◌, ◌<◌, ◌≤◌, length, get_or, take, drop, arith, drop-cons, refl, sym, ap, ◌∙◌}
use Rattle.std.specs.Prelude.{Option, None, Some, if◌then◌else◌, codes, option_and_then}
use Rattle.std.specs.List.{prefix_len}
use Rattle.std.specs.Option.{option_map}
use Rattle.std.proofs.lemmas.Bool.{eqb-true}
use Rattle.std.proofs.lemmas.List.{drop-append-le, get_or_append_left, length-drop, take-append-le}
use Rattle.std.proofs.lemmas.List.Sums.{prefix_len-le-length}
use Rattle.aa_bytes.specs.Texts.{begins, begins_with}
use Rattle.aa_bytes.specs.Bytes.{backslash, closing_brace, is_blank, is_letter, is_space_or_tab, line_feed, quote, smaller}
use Rattle.aa_text_tokens.specs.Cut.{Comment, Fault, Piece, Token, assign, before_quote, closing, comment, depth_behind, ends_word, include_from, include_word, opening, opening_behind, opening_if_exists, opens_name, piece, piece_at, plain, quoted, spaces, unclosed, value_piece, value_size, word, word_left, is_name_byte}
use Rattle.aa_text_tokens.specs.CutLaws.{has_line_feed}
use Rattle.aa_text_tokens.specs.declared.include.Opening.{Opening}
use Rattle.aa_text_tokens.specs.declared.cut.TokenKind.{TokenKind}
use Rattle.aa_text_tokens.specs.declared.cut.CutRefusal.TheVariants.{OpenOther, OpenQuote}
use Rattle.aa_text_tokens.specs.declared.cut.TokenKind.TheVariants.{Assign, Include, Value, Quoted, Word}
use Rattle.aa_text_tokens.proofs.PieceLaws.{before_quote-size, begins-behind, begins_with-behind, value_size-size, word_left-size}
use Rattle.aa_text_tokens.proofs.PieceTexts.{opening-opens}

-- a text, and what stands behind its line
abbrev pub line : List ℕ → List ℕ → List ℕ
line rest text = text ++ line_feed ∷ rest

-- the test of a last byte, under a count
last_one : (t : Bool) → option_map (λ n. n + 1) (if t then Some 0 else None) ≡ (if t then Some 1 else None)
last_one true = refl
last_one false = refl

-- a test and one that fails
pub and-none : (a : Bool) → (a && false) ≡ false
and-none true = refl
and-none false = refl

-- a name that opens is closed by another byte than a line feed
closing-other : (b : ℕ) → (b == smaller || b == quote) ≡ true → (line_feed == closing b) ≡ false
closing-other b h = by (b == smaller) refl
  where
    by : (t : Bool) → (b == smaller) ≡ t → (line_feed == closing b) ≡ false
    by true e = rw (e, closing) refl
    by false e = let quoted : (b == quote) ≡ true = rw e at h in let same : b ≡ quote = eqb-true b quote quoted in rw same refl

module _ (rest : List ℕ) where
  -- bytes of a kind that is no line feed
  prefix_len-line : (kind : ℕ → Bool) → kind line_feed ≡ false → (text : List ℕ) → prefix_len kind (line rest text) ≡ prefix_len kind text
  prefix_len-line kind h [] = rw h refl
  prefix_len-line kind h (b ∷ bs) = by (kind b) refl (prefix_len-line kind h bs)
    where
      by : (t : Bool) → kind b ≡ t → prefix_len kind (line rest bs) ≡ prefix_len kind bs → prefix_len kind (line rest (b ∷ bs)) ≡ prefix_len kind (b ∷ bs)
      by true e more = rw e (ap (λ n. 1 + n) more)
      by false e more = rw e refl

  -- a first byte of such a kind
  begins-line : (kind : ℕ → Bool) → kind line_feed ≡ false → (text : List ℕ) → begins kind (line rest text) ≡ begins kind text
  begins-line kind h [] = h
  begins-line kind h (b ∷ bs) = refl

  -- a text that has no line feed
  begins_with-line : (front text : List ℕ) → has_line_feed front ≡ false → begins_with front (line rest text) ≡ begins_with front text
  begins_with-line [] text h = refl
  begins_with-line (f ∷ fs) [] h = by (line_feed == f) refl
    where
      by : (t : Bool) → (line_feed == f) ≡ t → begins_with (f ∷ fs) (line rest []) ≡ begins_with (f ∷ fs) []
      by true e = let same : line_feed ≡ f = eqb-true line_feed f e in let there : true ≡ false = rw (sym same) at h in absurd cc
      by false e = rw e refl
  begins_with-line (f ∷ fs) (b ∷ bs) h = by (f == line_feed) refl (begins_with-line fs bs)
    where
      by : (t : Bool) → (f == line_feed) ≡ t → (has_line_feed fs ≡ false → begins_with fs (line rest bs) ≡ begins_with fs bs)
          → begins_with (f ∷ fs) (line rest (b ∷ bs)) ≡ begins_with (f ∷ fs) (b ∷ bs)
      by true e more = let there : true ≡ false = rw e at h in absurd cc
      by false e more = ap (λ t. (b == f) && t) (more (rw e at h))

  -- the same behind some bytes of the text
  prefix_len-behind : (kind : ℕ → Bool) → kind line_feed ≡ false → (n : ℕ) (text : List ℕ) → n ≤ length text → prefix_len kind (drop n (line rest text)) ≡ prefix_len kind (drop n text)
  prefix_len-behind kind h n text within = ap (prefix_len kind) (drop-append-le n text (line_feed ∷ rest) within) ∙ prefix_len-line kind h (drop n text)

  -- a byte of such a kind behind some bytes
  begins-after : (kind : ℕ → Bool) → kind line_feed ≡ false → (n : ℕ) (text : List ℕ) → n ≤ length text → begins kind (drop n (line rest text)) ≡ begins kind (drop n text)
  begins-after kind h n text within = ap (begins kind) (drop-append-le n text (line_feed ∷ rest) within) ∙ begins-line kind h (drop n text)

  -- a text that has no line feed, behind some bytes
  begins_with-after : (front : List ℕ) → has_line_feed front ≡ false → (n : ℕ) (text : List ℕ) → n ≤ length text → begins_with front (drop n (line rest text)) ≡ begins_with front (drop n text)
  begins_with-after front h n text within = ap (begins_with front) (drop-append-le n text (line_feed ∷ rest) within) ∙ begins_with-line front (drop n text) h

  -- what closes a text in quotes
  before_quote-end : before_quote (line_feed ∷ rest) ≡ None
  before_quote-end = by rest
    where
      by : (more : List ℕ) → before_quote (line_feed ∷ more) ≡ None
      by [] = refl
      by (c ∷ more) = refl

  -- what closes a text in quotes stands in its line
  before_quote-line : (text : List ℕ) → before_quote (line rest text) ≡ before_quote text
  before_quote-line [] = before_quote-end
  before_quote-line (b ∷ []) = by (b == quote) refl (b == line_feed) refl (b == backslash) refl
    where
      by : (q : Bool) → (b == quote) ≡ q → (l : Bool) → (b == line_feed) ≡ l → (s : Bool) → (b == backslash) ≡ s → before_quote (b ∷ line_feed ∷ rest) ≡ before_quote (b ∷ [])
      by true e l f s g = rw e refl
      by false e true f s g = rw (e, f) refl
      by false e false f true g = rw (e, f, g) (ap (option_map (λ n. n + 1)) before_quote-end)
      by false e false f false g = rw (e, f, g) (ap (option_map (λ n. n + 1)) before_quote-end)
  before_quote-line (b ∷ c ∷ bs) =
      ap (choose (option_map (λ n. n + 1) (before_quote (line rest (c ∷ bs))))) (ap (option_map (λ n. n + 2)) (before_quote-line bs))
      ∙ ap (λ one. choose one (option_map (λ n. n + 2) (before_quote bs))) (ap (option_map (λ n. n + 1)) (before_quote-line (c ∷ bs)))
    where
      choose : Option ℕ → Option ℕ → Option ℕ
      choose one two = if b == quote then Some 0 else (if b == line_feed then None else (if b == backslash && not (c == line_feed) then two else one))

  -- how many bytes a value has
  value_size-end : value_size (line_feed ∷ rest) ≡ 0
  value_size-end = by rest
    where
      by : (more : List ℕ) → value_size (line_feed ∷ more) ≡ 0
      by [] = refl
      by (c ∷ more) = refl

  -- a value ends with its line
  value_size-line : (text : List ℕ) → value_size (line rest text) ≡ value_size text
  value_size-line [] = value_size-end
  value_size-line (b ∷ []) = by (is_blank b) refl (b == backslash) refl
    where
      by : (t : Bool) → is_blank b ≡ t → (s : Bool) → (b == backslash) ≡ s → value_size (b ∷ line_feed ∷ rest) ≡ value_size (b ∷ [])
      by true e s f = rw e refl
      by false e true f = rw (e, f) (ap (λ n. n + 1) value_size-end)
      by false e false f = rw (e, f) (ap (λ n. n + 1) value_size-end)
  value_size-line (b ∷ c ∷ bs) =
      ap (choose (value_size (line rest (c ∷ bs)) + 1)) (ap (λ n. n + 2) (value_size-line bs))
      ∙ ap (λ one. choose one (value_size bs + 2)) (ap (λ n. n + 1) (value_size-line (c ∷ bs)))
    where
      choose : ℕ → ℕ → ℕ
      choose one two = if is_blank b then 0 else (if b == backslash && not (c == line_feed) then two else one)

  -- how many bytes are left of a word
  word_left-end : (depth before : ℕ) → word_left depth before (line_feed ∷ rest) ≡ (if depth == 0 then Some 0 else None)
  word_left-end depth before = by rest
    where
      by : (more : List ℕ) → word_left depth before (line_feed ∷ more) ≡ (if depth == 0 then Some 0 else None)
      by [] = refl
      by (c ∷ more) = refl

  -- a word ends with its line
  word_left-line : (depth before : ℕ) (text : List ℕ) → word_left depth before (line rest text) ≡ word_left depth before text
  word_left-line depth before [] = word_left-end depth before
  word_left-line depth before (b ∷ []) = by (is_blank b) refl (depth == 0 && ends_word before b []) refl (b == backslash) refl
    where
      more : option_map (λ n. n + 1) (word_left (depth_behind depth b) b (line_feed ∷ rest)) ≡ (if depth_behind depth b == 0 then Some 1 else None)
      more = ap (option_map (λ n. n + 1)) (word_left-end (depth_behind depth b) b) ∙ last_one (depth_behind depth b == 0)

      by : (t : Bool) → is_blank b ≡ t → (ends : Bool) → (depth == 0 && ends_word before b []) ≡ ends → (s : Bool) → (b == backslash) ≡ s
          → word_left depth before (b ∷ line_feed ∷ rest) ≡ word_left depth before (b ∷ [])
      by true e ends f s g = rw e refl
      by false e true f s g = rw (e, f) refl
      by false e false f true g = rw (e, f, g) more
      by false e false f false g = rw (e, f, g) more
  word_left-line depth before (b ∷ c ∷ bs) = rw (word_left-line depth c bs, word_left-line (depth_behind depth b) b (c ∷ bs)) refl

  -- ---- the pieces that are no Include and no Assign

  -- a comment ends with its line
  comment-line : (text : List ℕ) → comment (line rest text) ≡ comment text
  comment-line text = ap Comment (prefix_len-line (λ b. not (b == line_feed)) refl text)

  -- so does a text in quotes
  quoted-line : (kind : TokenKind) (b : ℕ) (bs : List ℕ) → quoted kind (line rest (b ∷ bs)) ≡ quoted kind (b ∷ bs)
  quoted-line kind b bs = rw (before_quote-line bs, quoted) (by (before_quote bs) refl)
    where
      by : (found : Option ℕ) → before_quote bs ≡ found
          → ◌≡◌ {A = Piece}
          (elim found [ None ↦ Fault OpenQuote | Some n ↦ Token kind (take n (line rest bs)) (n + 2) ])
          (elim found [ None ↦ Fault OpenQuote | Some n ↦ Token kind (take n bs) (n + 2) ])
      by None e = refl
      by (Some n) e =
          let within : n < length bs = before_quote-size bs n e in
          ap (λ own. Token kind own (n + 2)) (take-append-le n bs (line_feed ∷ rest) (omega arith))

  -- a word, or its fault
  word-line : (text : List ℕ) → word (line rest text) ≡ word text
  word-line text = rw (word_left-line 0 0 text, word) (by (word_left 0 0 text) refl)
    where
      by : (found : Option ℕ) → word_left 0 0 text ≡ found
          → ◌≡◌ {A = Piece}
          (elim found [ None ↦ Fault OpenOther | Some n ↦ Token Word (take n (line rest text)) n ])
          (elim found [ None ↦ Fault OpenOther | Some n ↦ Token Word (take n text) n ])
      by None e = refl
      by (Some n) e = ap (λ own. Token Word own n) (take-append-le n text (line_feed ∷ rest) (word_left-size 0 0 text n e))

  -- what is no Include and no Assign
  plain-line : (b : ℕ) (bs : List ℕ) → plain b (line rest (b ∷ bs)) ≡ plain b (b ∷ bs)
  plain-line b bs = rw (comment-line (b ∷ bs), quoted-line Quoted b bs, word-line (b ∷ bs)) refl

  -- and what stands where a value may begin
  value-line : (b : ℕ) (bs : List ℕ) → value_piece b (line rest (b ∷ bs)) ≡ value_piece b (b ∷ bs)
  value-line b bs =
      let own = take-append-le (value_size (b ∷ bs)) (b ∷ bs) (line_feed ∷ rest) (value_size-size (b ∷ bs)) in
      rw (comment-line (b ∷ bs), quoted-line Value b bs, value_size-line (b ∷ bs), own) refl

  -- ---- an Assign

  -- an Assign stands in its line
  assign-line : (text : List ℕ) → assign (line rest text) ≡ assign text
  assign-line text = by (begins_with (codes "@{") text) refl
    where
      name_size : List ℕ → ℕ
      name_size of = prefix_len is_name_byte (drop 2 of)

      name_of : List ℕ → List ℕ
      name_of of = take (name_size of) (drop 2 of)

      name_end : List ℕ → ℕ
      name_end of = 2 + name_size of

      sign_at : List ℕ → ℕ → ℕ
      sign_at of end = end + 1 + spaces (drop (end + 1) of)

      made : Bool → Bool → List ℕ → ℕ → Option Piece
      made sets adds name sign = if sets then Some (Token (Assign false) name (sign + 1)) else (if adds then Some (Token (Assign true) name (sign + 2)) else None)

      named : Bool → List ℕ → ℕ → Bool
      named at of end = at && begins is_letter (drop 2 of) && begins (λ b. b == closing_brace) (drop end of)

      from : List ℕ → List ℕ → ℕ → Option Piece
      from of name end = made (begins_with (codes "=") (drop (sign_at of end) of)) (begins_with (codes "+=") (drop (sign_at of end) of)) name (sign_at of end)

      -- the two, from where the name ends
      whole : (of : List ℕ) → assign of ≡ (if named (begins_with (codes "@{") of) of (name_end of) then from of (name_of of) (name_end of) else None)
      whole of = refl

      same_front : begins_with (codes "@{") (line rest text) ≡ begins_with (codes "@{") text
      same_front = begins_with-line (codes "@{") text refl

      closed : (name : List ℕ) (end : ℕ) → end < length text → from (line rest text) name end ≡ from text name end
      closed name end within =
          let next : end + 1 ≤ length text = omega arith in
          let same_sign : sign_at (line rest text) end ≡ sign_at text end = ap (λ n. end + 1 + n) (prefix_len-behind is_space_or_tab refl (end + 1) text next) in
          let left : prefix_len is_space_or_tab (drop (end + 1) text) ≤ length (drop (end + 1) text) = prefix_len-le-length is_space_or_tab (drop (end + 1) text) in
          let sign : sign_at text end ≤ length text = omega (arith, length-drop (end + 1) text) in
          ap (λ n. made (begins_with (codes "=") (drop n (line rest text))) (begins_with (codes "+=") (drop n (line rest text))) name n) same_sign
          ∙ ap (λ t. made t (begins_with (codes "+=") (drop (sign_at text end) (line rest text))) name (sign_at text end)) (begins_with-after (codes "=") refl (sign_at text end) text sign)
          ∙ ap (λ t. made (begins_with (codes "=") (drop (sign_at text end) text)) t name (sign_at text end)) (begins_with-after (codes "+=") refl (sign_at text end) text sign)

      on : (name : List ℕ) (end : ℕ) → (t : Bool) → begins (λ b. b == closing_brace) (drop end text) ≡ t → (a b : Bool)
          → (if a && b && t then from (line rest text) name end else None) ≡ (if a && b && t then from text name end else None)
      on name end true e a b = ap (λ p. if a && b && true then p else None) (closed name end (begins-behind (λ b. b == closing_brace) text end e))
      on name end false e true true = refl
      on name end false e true false = refl
      on name end false e false b = refl

      by : (t : Bool) → begins_with (codes "@{") text ≡ t → assign (line rest text) ≡ assign text
      by true e =
          let some : 2 ≤ length text = begins_with-behind (codes "@{") text 0 (omega arith) e in
          let same_size : name_size (line rest text) ≡ name_size text = prefix_len-behind is_name_byte refl 2 text some in
          let left : name_size text ≤ length (drop 2 text) = prefix_len-le-length is_name_byte (drop 2 text) in
          let end : name_end text ≤ length text = omega (arith, length-drop 2 text) in
          let same_name : take (name_size text) (drop 2 (line rest text)) ≡ name_of text =
          ap (take (name_size text)) (drop-append-le 2 text (line_feed ∷ rest) some) ∙ take-append-le (name_size text) (drop 2 text) (line_feed ∷ rest) left
          in
          ap (λ n. if named (begins_with (codes "@{") (line rest text)) (line rest text) (2 + n) then from (line rest text) (take n (drop 2 (line rest text))) (2 + n) else None) same_size
          ∙ ap (λ name. if named (begins_with (codes "@{") (line rest text)) (line rest text) (name_end text) then from (line rest text) name (name_end text) else None) same_name
          ∙ ap (λ t. if t && begins is_letter (drop 2 (line rest text)) && begins (λ b. b == closing_brace) (drop (name_end text) (line rest text)) then from (line rest text) (name_of text) (name_end text) else None) same_front
          ∙ ap (λ t. if begins_with (codes "@{") text && t && begins (λ b. b == closing_brace) (drop (name_end text) (line rest text)) then from (line rest text) (name_of text) (name_end text) else None) (begins-after is_letter refl 2 text some)
          ∙ ap (λ t. if begins_with (codes "@{") text && begins is_letter (drop 2 text) && t then from (line rest text) (name_of text) (name_end text) else None) (begins-after (λ b. b == closing_brace) refl (name_end text) text end)
          ∙ on (name_of text) (name_end text) (begins (λ b. b == closing_brace) (drop (name_end text) text)) refl (begins_with (codes "@{") text) (begins is_letter (drop 2 text))
      by false e =
          let other : begins_with (codes "@{") (line rest text) ≡ false = same_front ∙ e in
          rw (e, other) refl

  -- ---- an Include

  -- behind `if`
  if_exists-line : (at : ℕ) (text : List ℕ) → at ≤ length text → opening_if_exists at (line rest text) ≡ opening_if_exists at text
  if_exists-line at text within =
      ap (λ n. from (line rest text) n) same_before ∙ by (begins_with (codes "exists") (drop word_at text)) refl
    where
      found : ℕ → Bool → ℕ → Bool → Option Opening
      found before exists after name = if not (before == 0) && exists && not (after == 0) && name then Some (record { at = at + before + 6 + after; if_exists = true }) else None

      behind : List ℕ → Bool → ℕ → ℕ → Option Opening
      behind of exists before after = found before exists after (opens_name (drop (at + before + 6 + after) of))

      from : List ℕ → ℕ → Option Opening
      from of before = behind of (begins_with (codes "exists") (drop (at + before) of)) before (spaces (drop (at + before + 6) of))

      same_before : spaces (drop at (line rest text)) ≡ spaces (drop at text)
      same_before = prefix_len-behind is_space_or_tab refl at text within

      before : ℕ
      before = spaces (drop at text)

      word_at : ℕ
      word_at = at + before

      word_within : word_at ≤ length text
      word_within =
          let left : prefix_len is_space_or_tab (drop at text) ≤ length (drop at text) = prefix_len-le-length is_space_or_tab (drop at text) in
          omega (arith, length-drop at text)

      same_word : begins_with (codes "exists") (drop word_at (line rest text)) ≡ begins_with (codes "exists") (drop word_at text)
      same_word = begins_with-after (codes "exists") refl word_at text word_within

      none : (a c d : Bool) (e : Opening) → (if a && false && c && d then Some e else None) ≡ None
      none true c d e = refl
      none false c d e = refl

      no_word : (of : List ℕ) → begins_with (codes "exists") (drop word_at of) ≡ false → from of before ≡ None
      no_word of e =
          ap (λ t. behind of t before (spaces (drop (word_at + 6) of))) e
          ∙ none (not (before == 0)) (not (spaces (drop (word_at + 6) of) == 0)) (opens_name (drop (word_at + 6 + spaces (drop (word_at + 6) of)) of))
          (record { at = word_at + 6 + spaces (drop (word_at + 6) of); if_exists = true })

      by : (t : Bool) → begins_with (codes "exists") (drop word_at text) ≡ t → from (line rest text) before ≡ from text before
      by true e =
          let word_end : word_at + 6 ≤ length text = begins_with-behind (codes "exists") text word_at (omega arith) e in
          let left : prefix_len is_space_or_tab (drop (word_at + 6) text) ≤ length (drop (word_at + 6) text) = prefix_len-le-length is_space_or_tab (drop (word_at + 6) text) in
          let name_within : word_at + 6 + spaces (drop (word_at + 6) text) ≤ length text = omega (arith, length-drop (word_at + 6) text) in
          ap (λ t. behind (line rest text) t before (spaces (drop (word_at + 6) (line rest text)))) same_word
          ∙ ap (λ n. behind (line rest text) (begins_with (codes "exists") (drop word_at text)) before n) (prefix_len-behind is_space_or_tab refl (word_at + 6) text word_end)
          ∙ ap (λ t. found before (begins_with (codes "exists") (drop word_at text)) (spaces (drop (word_at + 6) text)) t)
          (begins-after (λ b. b == smaller || b == quote) refl (word_at + 6 + spaces (drop (word_at + 6) text)) text name_within)
      by false e = no_word (line rest text) (same_word ∙ e) ∙ sym (no_word text e)

  -- behind the word of an Include
  opening_behind-line : (text : List ℕ) (word : ℕ) → word ≤ length text → opening_behind (line rest text) word ≡ opening_behind text word
  opening_behind-line text word within =
      ap (λ n. from (line rest text) n) (ap (λ n. word + n) (prefix_len-behind is_space_or_tab refl word text within))
      ∙ ap (λ t. choose t (begins_with (codes "if") (drop at (line rest text))) at (opening_if_exists (at + 2) (line rest text))) (begins-after (λ b. b == smaller || b == quote) refl at text at_within)
      ∙ ap (λ t. choose (opens_name (drop at text)) t at (opening_if_exists (at + 2) (line rest text))) (begins_with-after (codes "if") refl at text at_within)
      ∙ by (begins_with (codes "if") (drop at text)) refl
    where
      choose : Bool → Bool → ℕ → Option Opening → Option Opening
      choose name further at more = if name then Some (record { at = at; if_exists = false }) else (if further then more else None)

      from : List ℕ → ℕ → Option Opening
      from of at = choose (opens_name (drop at of)) (begins_with (codes "if") (drop at of)) at (opening_if_exists (at + 2) of)

      at : ℕ
      at = word + spaces (drop word text)

      at_within : at ≤ length text
      at_within =
          let left : prefix_len is_space_or_tab (drop word text) ≤ length (drop word text) = prefix_len-le-length is_space_or_tab (drop word text) in
          omega (arith, length-drop word text)

      by : (t : Bool) → begins_with (codes "if") (drop at text) ≡ t
          → choose (opens_name (drop at text)) (begins_with (codes "if") (drop at text)) at (opening_if_exists (at + 2) (line rest text)) ≡ from text at
      by true e =
          let next : at + 2 ≤ length text = begins_with-behind (codes "if") text at (omega arith) e in
          ap (λ more. choose (opens_name (drop at text)) (begins_with (codes "if") (drop at text)) at more) (if_exists-line (at + 2) text next)
      by false e = rw e refl

  -- the word of an Include stands in its line
  include_word-line : (text : List ℕ) → include_word (line rest text) ≡ include_word text
  include_word-line text =
      ap (λ t. if t then Some 7 else (if begins_with (codes "#include") (line rest text) then Some 8 else None)) (begins_with-line (codes "include") text refl)
      ∙ ap (λ t. if begins_with (codes "include") text then Some 7 else (if t then Some 8 else None)) (begins_with-line (codes "#include") text refl)

  -- so does where its name opens
  opening-line : (text : List ℕ) → opening (line rest text) ≡ opening text
  opening-line text = by (begins_with (codes "include") text) refl (begins_with (codes "#include") text) refl
    where
      on : (word : ℕ) → include_word text ≡ Some word → word ≤ length text → opening (line rest text) ≡ opening text
      on word e within =
          ap (option_and_then (opening_behind (line rest text))) (include_word-line text ∙ e)
          ∙ opening_behind-line text word within
          ∙ sym (ap (option_and_then (opening_behind text)) e)

      by : (t : Bool) → begins_with (codes "include") text ≡ t → (u : Bool) → begins_with (codes "#include") text ≡ u → opening (line rest text) ≡ opening text
      by true e u f = on 7 (rw e refl) (begins_with-behind (codes "include") text 0 (omega arith) e)
      by false e true f = on 8 (rw (e, f) refl) (begins_with-behind (codes "#include") text 0 (omega arith) f)
      by false e false f =
          let none : include_word text ≡ None = rw (e, f) refl in
          ap (option_and_then (opening_behind (line rest text))) (include_word-line text ∙ none) ∙ sym (ap (option_and_then (opening_behind text)) none)

  -- from where its name opens
  include-line : (text : List ℕ) (o : Opening) → opens_name (drop o.at text) ≡ true → include_from (line rest text) o ≡ include_from text o
  include-line text o h =
      ap (λ first. found first (drop (o.at + 1) (line rest text))) (get_or_append_left text (line_feed ∷ rest) 0 o.at within)
      ∙ ap (found first) (drop-append-le (o.at + 1) text (line_feed ∷ rest) next)
      ∙ ap (λ n. made first (begins (λ b. b == closing first) (drop n (line rest behind))) (take n (line rest behind)) n) (prefix_len-line (goes_on first) (and-none (not (line_feed == closing first))) behind)
      ∙ ap (λ t. made first t (take size (line rest behind)) size) (begins-after (λ b. b == closing first) other size behind inside)
      ∙ ap (λ own. made first (begins (λ b. b == closing first) (drop size behind)) own size) (take-append-le size behind (line_feed ∷ rest) inside)
    where
      goes_on : ℕ → ℕ → Bool
      goes_on first b = not (b == closing first) && not (b == line_feed)

      made : ℕ → Bool → List ℕ → ℕ → Piece
      made first t own size = if t then Token (Include o.if_exists) own (o.at + size + 2) else Fault (unclosed first)

      -- what is found behind the byte that opens the name
      found : ℕ → List ℕ → Piece
      found first behind =
          let size = prefix_len (goes_on first) behind in
          made first (begins (λ b. b == closing first) (drop size behind)) (take size behind) size

      within : o.at < length text
      within = begins-behind (λ b. b == smaller || b == quote) text o.at h

      first : ℕ
      first = get_or text o.at 0

      opens : (first == smaller || first == quote) ≡ true
      opens = sym (ap (begins (λ b. b == smaller || b == quote)) (drop-cons text o.at 0 within)) ∙ h

      other : (line_feed == closing first) ≡ false
      other = closing-other first opens

      next : o.at + 1 ≤ length text
      next = let inside : o.at < length text = within in omega arith

      behind : List ℕ
      behind = drop (o.at + 1) text

      size : ℕ
      size = prefix_len (goes_on first) behind

      inside : size ≤ length behind
      inside = prefix_len-le-length (goes_on first) behind

  -- ---- what stands at a place

  -- what stands outside of values, where that is so of what is no Include and no Assign
  piece-line : (b : ℕ) (text : List ℕ) (c : ℕ) → plain c (line rest text) ≡ plain b text → piece c (line rest text) ≡ piece b text
  piece-line b text c same =
      ap (λ o. pick (line rest text) o (assign (line rest text)) (plain c (line rest text))) (opening-line text)
      ∙ ap (λ a. pick (line rest text) (opening text) a (plain c (line rest text))) (assign-line text)
      ∙ ap (λ p. pick (line rest text) (opening text) (assign text) p) same
      ∙ by (opening text) refl
    where
      pick : List ℕ → Option Opening → Option Piece → Piece → Piece
      pick of o a p = elim o [ Some o ↦ include_from of o | None ↦ elim a [ Some token ↦ token | None ↦ p ] ]

      by : (o : Option Opening) → opening text ≡ o → pick (line rest text) o (assign text) (plain b text) ≡ pick text o (assign text) (plain b text)
      by (Some o) e = include-line text o (opening-opens text o e)
      by None e = refl

  -- what stands at a place does not depend on what stands behind its line
  pub piece_at-line : (values : Bool) (text : List ℕ) → piece_at values (line rest text) ≡ piece_at values text
  piece_at-line true [] = ap (λ n. Token Value (take n (line_feed ∷ rest)) n) value_size-end
  piece_at-line true (b ∷ bs) = value-line b bs
  piece_at-line false [] = piece-line 0 [] line_feed (word-line [])
  piece_at-line false (b ∷ bs) = piece-line b (b ∷ bs) b (plain-line b bs)
