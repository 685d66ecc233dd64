-- How many bytes a piece has.
use Rattle.std.proofs.Common.{◌≡◌, ℕ, Bool, true, false, not, ◌&&◌, ◌==◌, List, [], ◌∷◌, ◌+◌, ◌<◌, ◌≤◌, length, get_or, take, drop, arith, refl, ap}
use Rattle.std.specs.Prelude.{Option, None, Some, if◌then◌else◌, codes}
use Rattle.std.specs.List.{prefix_len}
use Rattle.std.specs.Option.{option_map}
use Rattle.std.proofs.lemmas.Bool.{eqb-true}
use Rattle.std.proofs.lemmas.List.{length-drop, length-take}
use Rattle.std.proofs.lemmas.Slice.Eq.{bytes_eq-Decides}
use Rattle.aa_bytes.specs.Texts.{begins, begins_with}
use Rattle.aa_bytes.specs.Bytes.{backslash, closing_brace, comma, hash, is_blank, is_letter, line_feed, opening_brace, quote}
use Rattle.aa_text_tokens.specs.Cut.{Comment, Fault, Piece, Token, assign, before_quote, closing, comment, depth_behind, ends_word, include_from, opening, piece, piece_at, plain, quoted, spaces, value_piece, value_size, word, word_left, is_name_byte}
use Rattle.aa_text_tokens.specs.declared.include.Opening.{Opening}
use Rattle.aa_text_tokens.specs.declared.cut.TokenKind.{TokenKind}
use Rattle.aa_text_tokens.specs.declared.cut.TokenKind.TheVariants.{Assign, Value, Quoted}

-- how many bytes of a text stand before its first line feed
abbrev pub line_size : List ℕ → ℕ
line_size text = prefix_len (λ b. not (b == line_feed)) text

-- A token has a byte, and no more than the text. A comment is the text's first line.
abbrev pub Fits : List ℕ → Piece → Type 0
Fits text (Token kind own size) = (1 ≤ size) × (size ≤ length text)
Fits text (Comment size) = (begins (λ b. b == hash) text ≡ true) × (size ≡ line_size text)
Fits text (Fault refusal) = Unit {0}

-- a number under one more
pub mapped : (more : ℕ) (o : Option ℕ) (n : ℕ) → option_map (λ k. k + more) o ≡ Some n → (m : ℕ) × (o ≡ Some m) × (n ≡ m + more)
mapped more None n h = absurd cc
mapped more (Some m) n h = let same : n ≡ m + more = cc in (m, refl, same)

-- the quote that closes a text stands within it
pub before_quote-size : (text : List ℕ) (n : ℕ) → before_quote text ≡ Some n → n < length text
before_quote-size [] n h = absurd cc
before_quote-size (b ∷ []) n h = by (b == quote) refl
  where
    by : (t : Bool) → (b == quote) ≡ t → n < length (b ∷ [])
    by true e = let there : Some 0 ≡ Some n = rw e at h in let same : n ≡ 0 = cc in omega arith
    by false e = let there : None ≡ Some n = rw e at h in absurd cc
before_quote-size (b ∷ c ∷ bs) n h = by (b == quote) refl (b == line_feed) refl (b == backslash && not (c == line_feed)) refl (before_quote-size bs) (before_quote-size (c ∷ bs))
  where
    by : (t : Bool) → (b == quote) ≡ t → (l : Bool) → (b == line_feed) ≡ l → (both : Bool) → (b == backslash && not (c == line_feed)) ≡ both
        → ((m : ℕ) → before_quote bs ≡ Some m → m < length bs) → ((m : ℕ) → before_quote (c ∷ bs) ≡ Some m → m < length (c ∷ bs)) → n < length (b ∷ c ∷ bs)
    by true e l f both g two one = let there : Some 0 ≡ Some n = rw e at h in let same : n ≡ 0 = cc in omega arith
    by false e true f both g two one = let there : None ≡ Some n = rw (e, f) at h in absurd cc
    by false e false f true g two one =
        let found = mapped 2 (before_quote bs) n (rw (e, f, g) at h) in
        let within : found.0 < length bs = two found.0 found.1 in
        let same : n ≡ found.0 + 2 = found.2 in
        omega arith
    by false e false f false g two one =
        let found = mapped 1 (before_quote (c ∷ bs)) n (rw (e, f, g) at h) in
        let within : found.0 < length (c ∷ bs) = one found.0 found.1 in
        let same : n ≡ found.0 + 1 = found.2 in
        omega arith

-- a value stands within its text
pub value_size-size : (text : List ℕ) → value_size text ≤ length text
value_size-size [] = omega arith
value_size-size (b ∷ []) = by (is_blank b) refl
  where
    by : (t : Bool) → is_blank b ≡ t → value_size (b ∷ []) ≤ length (b ∷ [])
    by true e = rw e (omega arith)
    by false e = rw e (omega arith)
value_size-size (b ∷ c ∷ bs) = by (is_blank b) refl (b == backslash && not (c == line_feed)) refl (value_size-size bs) (value_size-size (c ∷ bs))
  where
    by : (t : Bool) → is_blank b ≡ t → (both : Bool) → (b == backslash && not (c == line_feed)) ≡ both → value_size bs ≤ length bs → value_size (c ∷ bs) ≤ length (c ∷ bs)
        → value_size (b ∷ c ∷ bs) ≤ length (b ∷ c ∷ bs)
    by true e both g two one = rw e (omega arith)
    by false e true g two one = rw (e, g) (omega arith)
    by false e false g two one = rw (e, g) (omega arith)

-- and has a byte where that is no blank
value_size-some : (b : ℕ) (bs : List ℕ) → is_blank b ≡ false → 1 ≤ value_size (b ∷ bs)
value_size-some b [] e = rw e (omega arith)
value_size-some b (c ∷ bs) e = by (b == backslash && not (c == line_feed)) refl
  where
    by : (both : Bool) → (b == backslash && not (c == line_feed)) ≡ both → 1 ≤ value_size (b ∷ c ∷ bs)
    by true g = rw (e, g) (omega arith)
    by false g = rw (e, g) (omega arith)

-- a word stands within its text
pub word_left-size : (depth before : ℕ) (text : List ℕ) (n : ℕ) → word_left depth before text ≡ Some n → n ≤ length text
word_left-size depth before [] n h = by (depth == 0) refl
  where
    by : (t : Bool) → (depth == 0) ≡ t → n ≤ 0
    by true e = let there : Some 0 ≡ Some n = rw e at h in let same : n ≡ 0 = cc in omega arith
    by false e = let there : None ≡ Some n = rw e at h in absurd cc
word_left-size depth before (b ∷ []) n h = by (is_blank b) refl (depth == 0) refl (ends_word before b []) refl (depth_behind depth b == 0) refl
  where
    by : (t : Bool) → is_blank b ≡ t → (out : Bool) → (depth == 0) ≡ out → (ends : Bool) → ends_word before b [] ≡ ends
        → (after : Bool) → (depth_behind depth b == 0) ≡ after → n ≤ length (b ∷ [])
    by true e true f ends g after i = let there : Some 0 ≡ Some n = rw (e, f) at h in let same : n ≡ 0 = cc in omega arith
    by true e false f ends g after i = let there : None ≡ Some n = rw (e, f) at h in absurd cc
    by false e true f true g after i = let there : Some 0 ≡ Some n = rw (e, f, g) at h in let same : n ≡ 0 = cc in omega arith
    by false e true f false g true i = let there : Some 1 ≡ Some n = rw (e, f, g, i) at h in let same : n ≡ 1 = cc in omega arith
    by false e true f false g false i = let there : None ≡ Some n = rw (e, f, g, i) at h in absurd cc
    by false e false f ends g true i = let there : Some 1 ≡ Some n = rw (e, f, i) at h in let same : n ≡ 1 = cc in omega arith
    by false e false f ends g false i = let there : None ≡ Some n = rw (e, f, i) at h in absurd cc
word_left-size depth before (b ∷ c ∷ bs) n h =
    by (is_blank b) refl (depth == 0) refl (ends_word before b (c ∷ bs)) refl (b == backslash && not (c == line_feed)) refl
    (word_left-size depth c bs) (word_left-size (depth_behind depth b) b (c ∷ bs))
  where
    on : (both : Bool) → (if both then option_map (λ n. n + 2) (word_left depth c bs) else option_map (λ n. n + 1) (word_left (depth_behind depth b) b (c ∷ bs))) ≡ Some n
        → ((m : ℕ) → word_left depth c bs ≡ Some m → m ≤ length bs) → ((m : ℕ) → word_left (depth_behind depth b) b (c ∷ bs) ≡ Some m → m ≤ length (c ∷ bs)) → n ≤ length (b ∷ c ∷ bs)
    on true k two one =
        let found = mapped 2 (word_left depth c bs) n k in
        let within : found.0 ≤ length bs = two found.0 found.1 in
        let same : n ≡ found.0 + 2 = found.2 in
        omega arith
    on false k two one =
        let found = mapped 1 (word_left (depth_behind depth b) b (c ∷ bs)) n k in
        let within : found.0 ≤ length (c ∷ bs) = one found.0 found.1 in
        let same : n ≡ found.0 + 1 = found.2 in
        omega arith

    by : (t : Bool) → is_blank b ≡ t → (out : Bool) → (depth == 0) ≡ out → (ends : Bool) → ends_word before b (c ∷ bs) ≡ ends
        → (both : Bool) → (b == backslash && not (c == line_feed)) ≡ both
        → ((m : ℕ) → word_left depth c bs ≡ Some m → m ≤ length bs) → ((m : ℕ) → word_left (depth_behind depth b) b (c ∷ bs) ≡ Some m → m ≤ length (c ∷ bs)) → n ≤ length (b ∷ c ∷ bs)
    by true e true f ends g both i two one = let there : Some 0 ≡ Some n = rw (e, f) at h in let same : n ≡ 0 = cc in omega arith
    by true e false f ends g both i two one = let there : None ≡ Some n = rw (e, f) at h in absurd cc
    by false e true f true g both i two one = let there : Some 0 ≡ Some n = rw (e, f, g) at h in let same : n ≡ 0 = cc in omega arith
    by false e true f false g both i two one = on both (rw (e, f, g, i) at h) two one
    by false e false f ends g both i two one = on both (rw (e, f, i) at h) two one

-- and has a byte where that is no blank and ends no word
word_left-some : (before b : ℕ) (bs : List ℕ) (n : ℕ) → is_blank b ≡ false → ends_word before b bs ≡ false → word_left 0 before (b ∷ bs) ≡ Some n → 1 ≤ n
word_left-some before b [] n e f h = by (depth_behind 0 b == 0) refl
  where
    by : (after : Bool) → (depth_behind 0 b == 0) ≡ after → 1 ≤ n
    by true g = let there : Some 1 ≡ Some n = rw (e, f, g) at h in let same : n ≡ 1 = cc in omega arith
    by false g = let there : None ≡ Some n = rw (e, f, g) at h in absurd cc
word_left-some before b (c ∷ bs) n e f h = by (b == backslash && not (c == line_feed)) refl
  where
    by : (both : Bool) → (b == backslash && not (c == line_feed)) ≡ both → 1 ≤ n
    by true g = let found = mapped 2 (word_left 0 c bs) n (rw (e, f, g) at h) in let same : n ≡ found.0 + 2 = found.2 in omega arith
    by false g = let found = mapped 1 (word_left (depth_behind 0 b) b (c ∷ bs)) n (rw (e, f, g) at h) in let same : n ≡ found.0 + 1 = found.2 in omega arith

-- a text that begins with another has as many bytes
begins_with-size : (front text : List ℕ) → begins_with front text ≡ true → length front ≤ length text
begins_with-size front text h =
    let same : take (length front) text ≡ front = (bytes_eq-Decides (take (length front) text) front).0 h in
    let size : length (take (length front) text) ≡ length front = ap length same in
    omega (arith, length-take (length front) text)

-- and has a byte behind those that are left out
pub begins_with-behind : (front text : List ℕ) (at : ℕ) → 0 < length front → begins_with front (drop at text) ≡ true → at + length front ≤ length text
begins_with-behind front text at some h =
    let size : length front ≤ length (drop at text) = begins_with-size front (drop at text) h in
    omega (arith, length-drop at text)

-- a text that begins with a byte has one
begins-some : (kind : ℕ → Bool) (text : List ℕ) → begins kind text ≡ true → 0 < length text
begins-some kind [] h = absurd cc
begins-some kind (b ∷ bs) h = omega arith

-- and so has the text before what is left out
pub begins-behind : (kind : ℕ → Bool) (text : List ℕ) (at : ℕ) → begins kind (drop at text) ≡ true → at < length text
begins-behind kind text at h =
    let size : 0 < length (drop at text) = begins-some kind (drop at text) h in
    omega (arith, length-drop at text)

-- a comment fits
comment-fits : (b : ℕ) (bs : List ℕ) → b ≡ hash → Fits (b ∷ bs) (comment (b ∷ bs))
comment-fits b bs e = (rw e refl, refl)

-- so does a text in quotes
quoted-fits : (kind : TokenKind) (b : ℕ) (bs : List ℕ) → Fits (b ∷ bs) (quoted kind (b ∷ bs))
quoted-fits kind b bs = by (before_quote bs) refl
  where
    by : (found : Option ℕ) → before_quote bs ≡ found → Fits (b ∷ bs) (quoted kind (b ∷ bs))
    by None e = rw (e, quoted) tt
    by (Some n) e = let within : n < length bs = before_quote-size bs n e in rw (e, quoted) (omega arith, omega arith)

-- a word
word-fits : (b : ℕ) (bs : List ℕ) → is_blank b ≡ false → ends_word 0 b bs ≡ false → Fits (b ∷ bs) (word (b ∷ bs))
word-fits b bs e f = by (word_left 0 0 (b ∷ bs)) refl
  where
    by : (found : Option ℕ) → word_left 0 0 (b ∷ bs) ≡ found → Fits (b ∷ bs) (word (b ∷ bs))
    by None g = rw (g, word) tt
    by (Some n) g =
        let within : n ≤ length (b ∷ bs) = word_left-size 0 0 (b ∷ bs) n g in
        let some : 1 ≤ n = word_left-some 0 b bs n e f g in
        rw (g, word) (omega arith, omega arith)

-- what is no Include and no Assign
plain-fits : (b : ℕ) (bs : List ℕ) → is_blank b ≡ false → Fits (b ∷ bs) (plain b (b ∷ bs))
plain-fits b bs black = by (b == hash) refl (b == quote) refl (b == comma) refl (b == opening_brace) refl (b == closing_brace) refl
  where
    by : (h : Bool) → (b == hash) ≡ h → (q : Bool) → (b == quote) ≡ q → (c : Bool) → (b == comma) ≡ c → (o : Bool) → (b == opening_brace) ≡ o
        → (d : Bool) → (b == closing_brace) ≡ d → Fits (b ∷ bs) (plain b (b ∷ bs))
    by true e q f c g o i d j = rw (e, plain) (comment-fits b bs (eqb-true b hash e))
    by false e true f c g o i d j = rw (e, f, plain) (quoted-fits Quoted b bs)
    by false e false f true g o i d j = rw (e, f, g, plain) (omega arith, omega arith)
    by false e false f false g true i d j = rw (e, f, g, i, plain) (omega arith, omega arith)
    by false e false f false g false i true j = rw (e, f, g, i, j, plain) (omega arith, omega arith)
    by false e false f false g false i false j = rw (e, f, g, i, j, plain) (word-fits b bs black (rw (g, i, j) refl))

-- a value
value-fits : (b : ℕ) (bs : List ℕ) → is_blank b ≡ false → Fits (b ∷ bs) (value_piece b (b ∷ bs))
value-fits b bs black = by (b == hash) refl (b == quote) refl
  where
    by : (h : Bool) → (b == hash) ≡ h → (q : Bool) → (b == quote) ≡ q → Fits (b ∷ bs) (value_piece b (b ∷ bs))
    by true e q f = rw (e, value_piece) (comment-fits b bs (eqb-true b hash e))
    by false e true f = rw (e, f, value_piece) (quoted-fits Value b bs)
    by false e false f = rw (e, f, value_piece) (value_size-some b bs black, value_size-size (b ∷ bs))

-- an Include
include-fits : (text : List ℕ) (o : Opening) → Fits text (include_from text o)
include-fits text o = by (begins (λ b. b == close) (drop size behind)) refl
  where
    close : ℕ
    close = closing (get_or text o.at 0)

    behind : List ℕ
    behind = drop (o.at + 1) text

    size : ℕ
    size = prefix_len (λ b. not (b == close) && not (b == line_feed)) behind

    by : (t : Bool) → begins (λ b. b == close) (drop size behind) ≡ t → Fits text (include_from text o)
    by true e =
        let within : size < length behind = begins-behind (λ b. b == close) behind size e in
        let most : o.at + size + 2 ≤ length text = omega (arith, length-drop (o.at + 1) text) in
        rw (e, include_from) (omega arith, most)
    by false e = rw (e, include_from) tt

-- an Assign
assign-fits : (text : List ℕ) (p : Piece) → assign text ≡ Some p → Fits text p
assign-fits text p h =
    by (begins_with (codes "@{") text && begins is_letter (drop 2 text) && begins (λ b. b == closing_brace) (drop end text)) refl
    (begins_with (codes "=") (drop sign text)) refl (begins_with (codes "+=") (drop sign text)) refl
  where
    name_of : List ℕ
    name_of = take (prefix_len is_name_byte (drop 2 text)) (drop 2 text)

    end : ℕ
    end = 2 + prefix_len is_name_byte (drop 2 text)

    sign : ℕ
    sign = end + 1 + spaces (drop (end + 1) text)

    by : (name : Bool) → (begins_with (codes "@{") text && begins is_letter (drop 2 text) && begins (λ b. b == closing_brace) (drop end text)) ≡ name
        → (sets : Bool) → begins_with (codes "=") (drop sign text) ≡ sets → (adds : Bool) → begins_with (codes "+=") (drop sign text) ≡ adds → Fits text p
    by true e true f adds g =
        let there : Some (Token (Assign false) name_of (sign + 1)) ≡ Some p = rw (e, f) at h in
        let same : p ≡ Token (Assign false) name_of (sign + 1) = cc in
        let within : sign + 1 ≤ length text = begins_with-behind (codes "=") text sign (omega arith) f in
        rw same (omega arith, omega arith)
    by true e false f true g =
        let there : Some (Token (Assign true) name_of (sign + 2)) ≡ Some p = rw (e, f, g) at h in
        let same : p ≡ Token (Assign true) name_of (sign + 2) = cc in
        let within : sign + 2 ≤ length text = begins_with-behind (codes "+=") text sign (omega arith) g in
        rw same (omega arith, omega arith)
    by true e false f false g = let there : None ≡ Some p = rw (e, f, g) at h in absurd cc
    by false e sets f adds g = let there : None ≡ Some p = rw e at h in absurd cc

-- what stands outside of values
piece-fits : (b : ℕ) (bs : List ℕ) → is_blank b ≡ false → Fits (b ∷ bs) (piece b (b ∷ bs))
piece-fits b bs black = by (opening (b ∷ bs)) refl (assign (b ∷ bs)) refl
  where
    by : (o : Option Opening) → opening (b ∷ bs) ≡ o → (a : Option Piece) → assign (b ∷ bs) ≡ a → Fits (b ∷ bs) (piece b (b ∷ bs))
    by (Some o) e a f = rw (e, piece) (include-fits (b ∷ bs) o)
    by None e (Some p) f = rw (e, f, piece) (assign-fits (b ∷ bs) p f)
    by None e None f = rw (e, f, piece) (plain-fits b bs black)

-- what stands anywhere
pub piece_at-fits : (values : Bool) (b : ℕ) (bs : List ℕ) → is_blank b ≡ false → Fits (b ∷ bs) (piece_at values (b ∷ bs))
piece_at-fits true b bs black = value-fits b bs black
piece_at-fits false b bs black = piece-fits b bs black
