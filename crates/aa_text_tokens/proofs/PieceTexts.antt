-- How the span of a piece tells its own text, and what its kind says beside.
use Rattle.std.proofs.Common.{◌≡◌, ℕ, Bool, true, false, not, ◌||◌, ◌&&◌, ◌==◌, List, [], ◌∷◌, ◌++◌, ◌+◌, ◌<◌, zero, suc, length, get_or, take, drop, arith, drop-cons, append_assoc, refl, sym, ap, subst, inl, inr, ◌∙◌}
use Rattle.std.specs.Prelude.{Option, None, Some, codes, option_and_then, ◌⊎◌}
use Rattle.std.specs.List.{list_all, prefix_len}
use Rattle.std.proofs.lemmas.Bool.{eqb-true}
use Rattle.std.proofs.Math.Seq.{take-add, take-suc}
use Rattle.std.proofs.lemmas.Slice.Eq.{bytes_eq-Decides}
use Rattle.aa_bytes.specs.Texts.{begins, begins_with, begins_with_byte}
use Rattle.aa_bytes.specs.Bytes.{backslash, closing_brace, comma, hash, is_letter, is_space_or_tab, line_feed, opening_brace, quote, smaller}
use Rattle.aa_text_tokens.specs.Cut.{Comment, Fault, Piece, Token, assign, before_quote, closing, include_from, include_word, opening, opening_behind, opening_if_exists, opens_name, piece, piece_at, plain, quoted, spaces, value_piece, value_size, word, word_left, is_name_byte}
use Rattle.aa_text_tokens.specs.CutLaws.{IsBeforeName, IsIncludeWord, IsTextOf, assign_sign}
use Rattle.aa_text_tokens.specs.declared.include.Opening.{Opening}
use Rattle.aa_text_tokens.specs.declared.cut.TokenKind.{TokenKind}
use Rattle.aa_text_tokens.specs.declared.cut.TokenKind.TheVariants.{Assign, Value, Quoted}
use Rattle.aa_text_tokens.proofs.PieceLaws.{before_quote-size, begins-behind, mapped}

-- the last of four tests
last_of : (a b c d : Bool) → (a && b && c && d) ≡ true → d ≡ true
last_of a b c true h = refl
last_of true true true false h = h
last_of true true false false h = h
last_of true false c false h = h
last_of false b c false h = h

-- a name opens where an Include says so: behind `if`
if_exists-opens : (at : ℕ) (text : List ℕ) (o : Opening) → opening_if_exists at text ≡ Some o → opens_name (drop o.at text) ≡ true
if_exists-opens at text o h =
    by (not (spaces (drop at text) == 0) && begins_with (codes "exists") (drop word_at text) && not (after == 0) && opens_name (drop (word_at + 6 + after) text)) refl
  where
    word_at : ℕ
    word_at = at + spaces (drop at text)

    after : ℕ
    after = spaces (drop (word_at + 6) text)

    by : (t : Bool) → (not (spaces (drop at text) == 0) && begins_with (codes "exists") (drop word_at text) && not (after == 0) && opens_name (drop (word_at + 6 + after) text)) ≡ t
        → opens_name (drop o.at text) ≡ true
    by true e =
        let there : Some (record { at = word_at + 6 + after; if_exists = true }) ≡ Some o = rw e at h in
        let same : o ≡ record { at = word_at + 6 + after; if_exists = true } = cc in
        ap (λ p. opens_name (drop p.at text)) same
        ∙ last_of (not (spaces (drop at text) == 0)) (begins_with (codes "exists") (drop word_at text)) (not (after == 0)) (opens_name (drop (word_at + 6 + after) text)) e
    by false e = let there : ◌≡◌ {A = Option Opening} None (Some o) = rw e at h in absurd cc

-- behind the word of an Include
opening_behind-opens : (text : List ℕ) (word : ℕ) (o : Opening) → opening_behind text word ≡ Some o → opens_name (drop o.at text) ≡ true
opening_behind-opens text word o h = by (opens_name (drop at text)) refl (begins_with (codes "if") (drop at text)) refl
  where
    at : ℕ
    at = word + spaces (drop word text)

    by : (t : Bool) → opens_name (drop at text) ≡ t → (i : Bool) → begins_with (codes "if") (drop at text) ≡ i → opens_name (drop o.at text) ≡ true
    by true e i f =
        let there : Some (record { at = at; if_exists = false }) ≡ Some o = rw e at h in
        let same : o ≡ record { at = at; if_exists = false } = cc in
        ap (λ p. opens_name (drop p.at text)) same ∙ e
    by false e true f = if_exists-opens (at + 2) text o (rw (e, f) at h)
    by false e false f = let there : ◌≡◌ {A = Option Opening} None (Some o) = rw (e, f) at h in absurd cc

-- anywhere
pub opening-opens : (text : List ℕ) (o : Opening) → opening text ≡ Some o → opens_name (drop o.at text) ≡ true
opening-opens text o h = by (include_word text) refl
  where
    by : (word : Option ℕ) → include_word text ≡ word → opens_name (drop o.at text) ≡ true
    by None e = let there : ◌≡◌ {A = Option Opening} None (Some o) = sym (ap (option_and_then (opening_behind text)) e) ∙ h in absurd cc
    by (Some word) e = opening_behind-opens text word o (sym (ap (option_and_then (opening_behind text)) e) ∙ h)

-- the bytes before the first that fails a test pass it
prefix-passes : (p : ℕ → Bool) (text : List ℕ) → list_all p (take (prefix_len p text) text) ≡ true
prefix-passes p [] = refl
prefix-passes p (b ∷ bs) = by (p b) refl (prefix-passes p bs)
  where
    by : (t : Bool) → p b ≡ t → list_all p (take (prefix_len p bs) bs) ≡ true → list_all p (take (prefix_len p (b ∷ bs)) (b ∷ bs)) ≡ true
    by true e rest =
        let size : prefix_len p (b ∷ bs) ≡ suc (prefix_len p bs) = rw e (omega arith) in
        ap (λ n. list_all p (take n (b ∷ bs))) size ∙ ap (λ t. t && list_all p (take (prefix_len p bs) bs)) e ∙ rest
    by false e rest = rw e refl

-- what a text begins with is its front
begins_with-front : (front text : List ℕ) → begins_with front text ≡ true → take (length front) text ≡ front
begins_with-front front text h = (bytes_eq-Decides (take (length front) text) front).0 h

-- the word of an Include
include_word-front : (text : List ℕ) (word : ℕ) → include_word text ≡ Some word → (take word text ≡ codes "include") ⊎ (take word text ≡ codes "#include")
include_word-front text word h = by (begins_with (codes "include") text) refl (begins_with (codes "#include") text) refl
  where
    by : (t : Bool) → begins_with (codes "include") text ≡ t → (u : Bool) → begins_with (codes "#include") text ≡ u → (take word text ≡ codes "include") ⊎ (take word text ≡ codes "#include")
    by true e u f =
        let there : Some 7 ≡ Some word = rw e at h in
        let same : word ≡ 7 = cc in
        inl (ap (λ n. take n text) same ∙ begins_with-front (codes "include") text e)
    by false e true f =
        let there : Some 8 ≡ Some word = rw (e, f) at h in
        let same : word ≡ 8 = cc in
        inr (ap (λ n. take n text) same ∙ begins_with-front (codes "#include") text f)
    by false e false f = let there : ◌≡◌ {A = Option ℕ} None (Some word) = rw (e, f) at h in absurd cc

-- with the spaces behind it
include_word-spaces : (text : List ℕ) (word : ℕ) → include_word text ≡ Some word → IsIncludeWord (take (word + spaces (drop word text)) text)
include_word-spaces text word h =
    (take word text, take (spaces (drop word text)) (drop word text), include_word-front text word h, prefix-passes is_space_or_tab (drop word text), take-add word (spaces (drop word text)) text)

-- the second of four tests
second_of : (a b c d : Bool) → (a && b && c && d) ≡ true → b ≡ true
second_of a true c d h = refl
second_of true false c d h = h
second_of false false c d h = h

-- what stands before a name that opens behind `if`
if_exists-before : (at : ℕ) (text : List ℕ) (o : Opening) → IsIncludeWord (take at text) → begins_with (codes "if") (drop at text) ≡ true → opening_if_exists (at + 2) text ≡ Some o
    → IsBeforeName o.if_exists (take o.at text)
if_exists-before at text o start if_there h =
    by (not (spaces (drop (at + 2) text) == 0) && begins_with (codes "exists") (drop word_at text) && not (after == 0) && opens_name (drop (word_at + 6 + after) text)) refl
  where
    before : ℕ
    before = spaces (drop (at + 2) text)

    word_at : ℕ
    word_at = at + 2 + before

    after : ℕ
    after = spaces (drop (word_at + 6) text)

    gap : List ℕ
    gap = take before (drop (at + 2) text)

    more : List ℕ
    more = take after (drop (word_at + 6) text)

    front : begins_with (codes "exists") (drop word_at text) ≡ true → take (word_at + 6 + after) text ≡ take at text ++ codes "if" ++ gap ++ codes "exists" ++ more
    front exists_there =
        take-add (word_at + 6) after text
        ∙ ap (λ l. l ++ more) (take-add word_at 6 text ∙ ap (λ l. take word_at text ++ l) (begins_with-front (codes "exists") (drop word_at text) exists_there))
        ∙ ap (λ l. (l ++ codes "exists") ++ more) (take-add (at + 2) before text)
        ∙ ap (λ l. ((l ++ gap) ++ codes "exists") ++ more) (take-add at 2 text ∙ ap (λ l. take at text ++ l) (begins_with-front (codes "if") (drop at text) if_there))

    by : (t : Bool) → (not (spaces (drop (at + 2) text) == 0) && begins_with (codes "exists") (drop word_at text) && not (after == 0) && opens_name (drop (word_at + 6 + after) text)) ≡ t
        → IsBeforeName o.if_exists (take o.at text)
    by true e =
        let there : Some (record { at = word_at + 6 + after; if_exists = true }) ≡ Some o = rw e at h in
        let same : o ≡ record { at = word_at + 6 + after; if_exists = true } = cc in
        let exists_there = second_of (not (spaces (drop (at + 2) text) == 0)) (begins_with (codes "exists") (drop word_at text)) (not (after == 0)) (opens_name (drop (word_at + 6 + after) text)) e in
        subst (λ (p : Opening). IsBeforeName p.if_exists (take p.at text)) (sym same)
        (take at text, gap, more, start, prefix-passes is_space_or_tab (drop (at + 2) text), prefix-passes is_space_or_tab (drop (word_at + 6) text), front exists_there)
    by false e = let there : ◌≡◌ {A = Option Opening} None (Some o) = rw e at h in absurd cc

-- behind the word of an Include
opening_behind-before : (text : List ℕ) (word : ℕ) (o : Opening) → include_word text ≡ Some word → opening_behind text word ≡ Some o → IsBeforeName o.if_exists (take o.at text)
opening_behind-before text word o is_word h = by (opens_name (drop at text)) refl (begins_with (codes "if") (drop at text)) refl
  where
    at : ℕ
    at = word + spaces (drop word text)

    start : IsIncludeWord (take at text)
    start = include_word-spaces text word is_word

    by : (t : Bool) → opens_name (drop at text) ≡ t → (i : Bool) → begins_with (codes "if") (drop at text) ≡ i → IsBeforeName o.if_exists (take o.at text)
    by true e i f =
        let there : Some (record { at = at; if_exists = false }) ≡ Some o = rw e at h in
        let same : o ≡ record { at = at; if_exists = false } = cc in
        subst (λ (p : Opening). IsBeforeName p.if_exists (take p.at text)) (sym same) start
    by false e true f = if_exists-before at text o start f (rw (e, f) at h)
    by false e false f = let there : ◌≡◌ {A = Option Opening} None (Some o) = rw (e, f) at h in absurd cc

-- anywhere
opening-before : (text : List ℕ) (o : Opening) → opening text ≡ Some o → IsBeforeName o.if_exists (take o.at text)
opening-before text o h = by (include_word text) refl
  where
    by : (word : Option ℕ) → include_word text ≡ word → IsBeforeName o.if_exists (take o.at text)
    by None e = let there : ◌≡◌ {A = Option Opening} None (Some o) = sym (ap (option_and_then (opening_behind text)) e) ∙ h in absurd cc
    by (Some word) e = opening_behind-before text word o e (sym (ap (option_and_then (opening_behind text)) e) ∙ h)

-- a token's text is told by its span
abbrev pub Tells : List ℕ → Piece → Type 0
Tells text (Token kind own size) = IsTextOf kind own (take size text)
Tells text (Comment size) = Unit {0}
Tells text (Fault refusal) = Unit {0}

-- a quote stands where a text in quotes ends
before_quote-quote : (text : List ℕ) (n : ℕ) → before_quote text ≡ Some n → get_or text n 0 ≡ quote
before_quote-quote [] n h = absurd cc
before_quote-quote (b ∷ []) n h = by (b == quote) refl
  where
    by : (t : Bool) → (b == quote) ≡ t → get_or (b ∷ []) n 0 ≡ quote
    by true e = let there : Some 0 ≡ Some n = rw e at h in let same : n ≡ 0 = cc in ap (λ k. get_or (b ∷ []) k 0) same ∙ eqb-true b quote e
    by false e = let there : None ≡ Some n = rw e at h in absurd cc
before_quote-quote (b ∷ c ∷ bs) n h = by (b == quote) refl (b == line_feed) refl (b == backslash && not (c == line_feed)) refl (before_quote-quote bs) (before_quote-quote (c ∷ bs))
  where
    by : (t : Bool) → (b == quote) ≡ t → (l : Bool) → (b == line_feed) ≡ l → (both : Bool) → (b == backslash && not (c == line_feed)) ≡ both
        → ((m : ℕ) → before_quote bs ≡ Some m → get_or bs m 0 ≡ quote) → ((m : ℕ) → before_quote (c ∷ bs) ≡ Some m → get_or (c ∷ bs) m 0 ≡ quote) → get_or (b ∷ c ∷ bs) n 0 ≡ quote
    by true e l f both g two one = let there : Some 0 ≡ Some n = rw e at h in let same : n ≡ 0 = cc in ap (λ k. get_or (b ∷ c ∷ bs) k 0) same ∙ eqb-true b quote e
    by false e true f both g two one = let there : None ≡ Some n = rw (e, f) at h in absurd cc
    by false e false f true g two one =
        let found = mapped 2 (before_quote bs) n (rw (e, f, g) at h) in
        let further : n ≡ found.0 + 2 = found.2 in
        let same : n ≡ suc (suc found.0) = omega arith in
        ap (λ k. get_or (b ∷ c ∷ bs) k 0) same ∙ two found.0 found.1
    by false e false f false g two one =
        let found = mapped 1 (before_quote (c ∷ bs)) n (rw (e, f, g) at h) in
        let further : n ≡ found.0 + 1 = found.2 in
        let same : n ≡ suc found.0 = omega arith in
        ap (λ k. get_or (b ∷ c ∷ bs) k 0) same ∙ one found.0 found.1

-- a text in quotes
quoted-tells : (kind : TokenKind) → ((text span : List ℕ) → span ≡ quote ∷ text ++ quote ∷ [] → IsTextOf kind text span) → (b : ℕ) (bs : List ℕ) → b ≡ quote
    → Tells (b ∷ bs) (quoted kind (b ∷ bs))
quoted-tells kind told b bs opened = by (before_quote bs) refl
  where
    by : (found : Option ℕ) → before_quote bs ≡ found → Tells (b ∷ bs) (quoted kind (b ∷ bs))
    by None e = rw (e, quoted) tt
    by (Some n) e =
        let within : n < length bs = before_quote-size bs n e in
        let two : n + 2 ≡ suc (suc n) = omega arith in
        let span : take (n + 2) (b ∷ bs) ≡ quote ∷ take n bs ++ quote ∷ [] =
        ap (λ k. take k (b ∷ bs)) two ∙ ap (λ l. b ∷ l) (take-suc bs n 0 within)
        ∙ ap (λ q. b ∷ take n bs ++ q ∷ []) (before_quote-quote bs n e) ∙ ap (λ q. q ∷ take n bs ++ quote ∷ []) opened
        in
        rw (e, quoted) (told (take n bs) (take (n + 2) (b ∷ bs)) span)

-- a word is its span
word-tells : (text : List ℕ) → Tells text (word text)
word-tells text = by (word_left 0 0 text) refl
  where
    by : (found : Option ℕ) → word_left 0 0 text ≡ found → Tells text (word text)
    by None e = rw (e, word) tt
    by (Some n) e = rw (e, word) refl

-- what is no Include and no Assign
plain-tells : (b : ℕ) (bs : List ℕ) → Tells (b ∷ bs) (plain b (b ∷ bs))
plain-tells b bs = by (b == hash) refl (b == quote) refl (b == comma) refl (b == opening_brace) refl (b == closing_brace) refl
  where
    by : (h : Bool) → (b == hash) ≡ h → (q : Bool) → (b == quote) ≡ q → (c : Bool) → (b == comma) ≡ c → (o : Bool) → (b == opening_brace) ≡ o
        → (d : Bool) → (b == closing_brace) ≡ d → Tells (b ∷ bs) (plain b (b ∷ bs))
    by true e q f c g o i d j = rw (e, plain) tt
    by false e true f c g o i d j = rw (e, f, plain) (quoted-tells Quoted (λ text span told. told) b bs (eqb-true b quote f))
    by false e false f true g o i d j = rw (e, f, g, plain) refl
    by false e false f false g true i d j = rw (e, f, g, i, plain) refl
    by false e false f false g false i true j = rw (e, f, g, i, j, plain) refl
    by false e false f false g false i false j = rw (e, f, g, i, j, plain) (word-tells (b ∷ bs))

-- no front of a text begins with a quote where the text doesn't
unquoted-front : (n b : ℕ) (bs : List ℕ) → (b == quote) ≡ false → begins_with_byte quote (take n (b ∷ bs)) ≡ false
unquoted-front zero b bs h = refl
unquoted-front (suc n) b bs h = h

-- a value
value-tells : (b : ℕ) (bs : List ℕ) → Tells (b ∷ bs) (value_piece b (b ∷ bs))
value-tells b bs = by (b == hash) refl (b == quote) refl
  where
    by : (h : Bool) → (b == hash) ≡ h → (q : Bool) → (b == quote) ≡ q → Tells (b ∷ bs) (value_piece b (b ∷ bs))
    by true e q f = rw (e, value_piece) tt
    by false e true f = rw (e, f, value_piece) (quoted-tells Value (λ text span told. inr told) b bs (eqb-true b quote f))
    by false e false f = rw (e, f, value_piece) (inl (unquoted-front (value_size (b ∷ bs)) b bs f, refl))

-- an Include, from where its name opens
include-tells : (text : List ℕ) (o : Opening) → opens_name (drop o.at text) ≡ true → IsBeforeName o.if_exists (take o.at text) → Tells text (include_from text o)
include-tells text o h before = by (begins (λ b. b == close) (drop size behind)) refl
  where
    first : ℕ
    first = get_or text o.at 0

    close : ℕ
    close = closing first

    behind : List ℕ
    behind = drop (o.at + 1) text

    size : ℕ
    size = prefix_len (λ b. not (b == close) && not (b == line_feed)) behind

    within : o.at < length text
    within = begins-behind (λ b. b == smaller || b == quote) text o.at h

    opens : (first == smaller || first == quote) ≡ true
    opens = sym (ap (begins (λ b. b == smaller || b == quote)) (drop-cons text o.at 0 within)) ∙ h

    by : (t : Bool) → begins (λ b. b == close) (drop size behind) ≡ t → Tells text (include_from text o)
    by true e =
        let inside : o.at < length text = within in
        let size_within : size < length behind = begins-behind (λ b. b == close) behind size e in
        let ends : get_or behind size 0 ≡ close = eqb-true (get_or behind size 0) close (sym (ap (begins (λ b. b == close)) (drop-cons behind size 0 size_within)) ∙ e) in
        let all : o.at + size + 2 ≡ o.at + 1 + (size + 1) = omega arith in
        let one : size + 1 ≡ suc size = omega arith in
        let next : o.at + 1 ≡ suc o.at = omega arith in
        let own : List ℕ = take size behind in
        let name : take (size + 1) behind ≡ own ++ close ∷ [] = ap (λ n. take n behind) one ∙ take-suc behind size 0 size_within ∙ ap (λ q. own ++ q ∷ []) ends in
        let front : take (o.at + 1) text ≡ take o.at text ++ first ∷ [] = ap (λ n. take n text) next ∙ take-suc text o.at 0 inside in
        let span : take (o.at + size + 2) text ≡ take o.at text ++ first ∷ own ++ close ∷ [] =
        ap (λ n. take n text) all ∙ take-add (o.at + 1) (size + 1) text
        ∙ ap (λ l. l ++ take (size + 1) behind) front
        ∙ ap (λ l. (take o.at text ++ first ∷ []) ++ l) name
        ∙ sym (append_assoc (take o.at text ++ first ∷ []) own (close ∷ []))
        ∙ ap (λ l. l ++ close ∷ []) (append_assoc (take o.at text) (first ∷ []) own)
        in
        rw (e, include_from) (take o.at text, first, before, opens, span)
    by false e = rw (e, include_from) tt

-- an Assign
assign-tells : (text : List ℕ) (p : Piece) → assign text ≡ Some p → Tells text p
assign-tells text p h =
    by (begins_with (codes "@{") text) refl (begins is_letter (drop 2 text)) refl (begins (λ b. b == closing_brace) (drop end text)) refl
    (begins_with (codes "=") (drop sign text)) refl (begins_with (codes "+=") (drop sign text)) refl
  where
    size : ℕ
    size = prefix_len is_name_byte (drop 2 text)

    end : ℕ
    end = 2 + size

    sign : ℕ
    sign = end + 1 + spaces (drop (end + 1) text)

    gap : List ℕ
    gap = take (spaces (drop (end + 1) text)) (drop (end + 1) text)

    own : List ℕ
    own = take size (drop 2 text)

    told : begins_with (codes "@{") text ≡ true → begins (λ b. b == closing_brace) (drop end text) ≡ true → (more : ℕ) (append : Bool) → take more (drop sign text) ≡ assign_sign append
        → Tells text (Token (Assign append) own (sign + more))
    told opened closed more append signed =
        let within : end < length text = begins-behind (λ b. b == closing_brace) text end closed in
        let ends : get_or text end 0 ≡ closing_brace = eqb-true (get_or text end 0) closing_brace (sym (ap (begins (λ b. b == closing_brace)) (drop-cons text end 0 within)) ∙ closed) in
        let one : end + 1 ≡ suc end = omega arith in
        let name : take end text ≡ codes "@{" ++ own = take-add 2 size text ∙ ap (λ l. l ++ own) (begins_with-front (codes "@{") text opened) in
        let braced : take (end + 1) text ≡ (codes "@{" ++ own) ++ closing_brace ∷ [] =
        ap (λ n. take n text) one ∙ take-suc text end 0 within ∙ ap (λ q. take end text ++ q ∷ []) ends ∙ ap (λ l. l ++ closing_brace ∷ []) name
        in (
          gap,
          prefix-passes is_space_or_tab (drop (end + 1) text),
          take-add sign more text
              ∙ ap (λ l. take sign text ++ l) signed
              ∙ ap (λ l. l ++ assign_sign append) (take-add (end + 1) (spaces (drop (end + 1) text)) text)
              ∙ ap (λ l. (l ++ gap) ++ assign_sign append) braced
              ∙ ap (λ l. l ++ assign_sign append) (append_assoc (codes "@{" ++ own) (closing_brace ∷ []) gap),
        )

    by : (o : Bool) → begins_with (codes "@{") text ≡ o → (l : Bool) → begins is_letter (drop 2 text) ≡ l → (c : Bool) → begins (λ b. b == closing_brace) (drop end text) ≡ c
        → (sets : Bool) → begins_with (codes "=") (drop sign text) ≡ sets → (adds : Bool) → begins_with (codes "+=") (drop sign text) ≡ adds → Tells text p
    by true a true b true d true f adds g =
        let there : Some (Token (Assign false) own (sign + 1)) ≡ Some p = rw (a, b, d, f) at h in
        let same : p ≡ Token (Assign false) own (sign + 1) = cc in
        subst (Tells text) (sym same) (told a d 1 false (begins_with-front (codes "=") (drop sign text) f))
    by true a true b true d false f true g =
        let there : Some (Token (Assign true) own (sign + 2)) ≡ Some p = rw (a, b, d, f, g) at h in
        let same : p ≡ Token (Assign true) own (sign + 2) = cc in
        subst (Tells text) (sym same) (told a d 2 true (begins_with-front (codes "+=") (drop sign text) g))
    by true a true b true d false f false g = let there : ◌≡◌ {A = Option Piece} None (Some p) = rw (a, b, d, f, g) at h in absurd cc
    by true a true b false d sets f adds g = let there : ◌≡◌ {A = Option Piece} None (Some p) = rw (a, b, d) at h in absurd cc
    by true a false b c d sets f adds g = let there : ◌≡◌ {A = Option Piece} None (Some p) = rw (a, b) at h in absurd cc
    by false a l b c d sets f adds g = let there : ◌≡◌ {A = Option Piece} None (Some p) = rw a at h in absurd cc

-- what stands outside of values
piece-tells : (b : ℕ) (bs : List ℕ) → Tells (b ∷ bs) (piece b (b ∷ bs))
piece-tells b bs = by (opening (b ∷ bs)) refl (assign (b ∷ bs)) refl
  where
    by : (o : Option Opening) → opening (b ∷ bs) ≡ o → (a : Option Piece) → assign (b ∷ bs) ≡ a → Tells (b ∷ bs) (piece b (b ∷ bs))
    by (Some o) e a f = rw (e, piece) (include-tells (b ∷ bs) o (opening-opens (b ∷ bs) o e) (opening-before (b ∷ bs) o e))
    by None e (Some p) f = rw (e, f, piece) (assign-tells (b ∷ bs) p f)
    by None e None f = rw (e, f, piece) (plain-tells b bs)

-- what stands anywhere
pub piece_at-tells : (values : Bool) (b : ℕ) (bs : List ℕ) → Tells (b ∷ bs) (piece_at values (b ∷ bs))
piece_at-tells true b bs = value-tells b bs
piece_at-tells false b bs = piece-tells b bs
