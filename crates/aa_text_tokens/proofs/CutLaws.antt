-- The tokens of a text cover it.
use Rattle.std.proofs.Common.{◌≡◌, ℕ, Bool, true, false, not, ◌||◌, ◌&&◌, ◌==◌, List, [], ◌∷◌, ◌+◌, ◌-◌, ◌<◌, ◌≤◌, zero, suc, length, take, drop, arith, refl, sym, ap, subst, ◌∙◌, Result, Ok, Err}
use Rattle.std.proofs.lemmas.Bool.{eqb-true}
use Rattle.std.proofs.lemmas.List.{length-drop}
use Rattle.std.proofs.lemmas.List.Sums.{prefix_len-le-length}
use Rattle.std.proofs.Math.Seq.{drop-nil}
use Rattle.aa_bytes.specs.Texts.{begins}
use Rattle.aa_bytes.specs.Bytes.{hash, is_blank, line_feed}
use Rattle.aa_text_tokens.specs.Cut.{Comment, Fault, Piece, Seen, Token, before_tokens, cut, is_assign, piece_at}
use Rattle.aa_text_tokens.specs.CutLaws.{is_gap, is_gap_from, Covers, IsTextOf}
use Rattle.aa_text_tokens.specs.declared.cut.CutRefusal.{CutRefusal}
use Rattle.aa_text_tokens.specs.declared.cut.TokenKind.{TokenKind}
use Rattle.aa_text_tokens.proofs.CutLemmas.{cut-behind, cut-piece}
use Rattle.aa_text_tokens.proofs.PieceLaws.{line_size, piece_at-fits, Fits}
use Rattle.aa_text_tokens.proofs.PieceTexts.{piece_at-tells, Tells}

-- ---- the tokens cover the text

-- what is left behind some bytes, and then behind more
drop-more : (n m : ℕ) (text : List ℕ) → drop (n + m) text ≡ drop m (drop n text)
drop-more n m [] = drop-nil (n + m) ∙ sym (ap (drop m) (drop-nil n) ∙ drop-nil m)
drop-more zero m (b ∷ bs) = let same : 0 + m ≡ m = omega arith in rw same refl
drop-more (suc n) m (b ∷ bs) = let same : suc n + m ≡ suc (n + m) = omega arith in rw same (drop-more n m bs)

-- what stands behind the first line
abbrev behind_line : List ℕ → List ℕ
behind_line text = drop (line_size text) text

-- a line feed ends a line
line_size-end : (b : ℕ) (bs : List ℕ) → (b == line_feed) ≡ true → line_size (b ∷ bs) ≡ 0
line_size-end b bs e = rw e refl

-- nothing stands before a line feed that comes first
behind_line-end : (b : ℕ) (bs : List ℕ) → (b == line_feed) ≡ true → behind_line (b ∷ bs) ≡ b ∷ bs
behind_line-end b bs e = ap (λ n. drop n (b ∷ bs)) (line_size-end b bs e)

-- any other byte belongs to it
pub line_size-more : (b : ℕ) (bs : List ℕ) → (b == line_feed) ≡ false → line_size (b ∷ bs) ≡ suc (line_size bs)
line_size-more b bs e = rw e (omega arith)

-- what stands behind the line of a byte that is none
behind_line-more : (b : ℕ) (bs : List ℕ) → (b == line_feed) ≡ false → behind_line (b ∷ bs) ≡ behind_line bs
behind_line-more b bs e = ap (λ n. drop n (b ∷ bs)) (line_size-more b bs e)

-- a blank is no `#`
blank-no_hash : (b : ℕ) → is_blank b ≡ true → (b == hash) ≡ false
blank-no_hash b h = by (b == hash) refl
  where
    by : (t : Bool) → (b == hash) ≡ t → (b == hash) ≡ false
    by true e = let same : b ≡ hash = eqb-true b hash e in let there : false ≡ true = rw same at h in absurd cc
    by false e = e

-- a gap goes on behind a blank
gap-blank : (last : Bool) (b : ℕ) (text : List ℕ) → is_blank b ≡ true → is_gap_from last false text ≡ true → is_gap_from last false (b ∷ text) ≡ true
gap-blank last b text h rest = let other : (b == hash) ≡ false = blank-no_hash b h in rw (h, other) rest

-- and behind a comment
gap-comment : (text : List ℕ) (k : ℕ) → 0 < k → k ≤ length (behind_line text) → is_gap_from false false (take k (behind_line text)) ≡ true
    → is_gap_from false true (take (line_size text + k) text) ≡ true
gap-comment [] k some within rest = absurd (omega arith)
gap-comment (b ∷ bs) k some within rest = by (b == line_feed) refl (gap-comment bs k some)
  where
    by : (t : Bool) → (b == line_feed) ≡ t
        → (k ≤ length (behind_line bs) → is_gap_from false false (take k (behind_line bs)) ≡ true → is_gap_from false true (take (line_size bs + k) bs) ≡ true)
        → is_gap_from false true (take (line_size (b ∷ bs) + k) (b ∷ bs)) ≡ true
    by true e more =
        let none : line_size (b ∷ bs) ≡ 0 = line_size-end b bs e in
        let sum : line_size (b ∷ bs) + k ≡ suc (k - 1) = omega arith in
        let small : k ≡ suc (k - 1) = omega arith in
        let all : is_gap_from false false (take k (b ∷ bs)) ≡ true = subst (λ l. is_gap_from false false (take k l) ≡ true) (behind_line-end b bs e) rest in
        let there : is_gap_from false false (take (suc (k - 1)) (b ∷ bs)) ≡ true = subst (λ n. is_gap_from false false (take n (b ∷ bs)) ≡ true) small all in
        let same : b ≡ line_feed = eqb-true b line_feed e in
        ap (λ n. is_gap_from false true (take n (b ∷ bs))) sum ∙ ap (λ t. is_gap_from false (not t) (take (k - 1) bs)) e ∙ (rw same at there)
    by false e more =
        let size : line_size (b ∷ bs) ≡ suc (line_size bs) = line_size-more b bs e in
        let sum : line_size (b ∷ bs) + k ≡ suc (line_size bs + k) = omega arith in
        let left : k ≤ length (behind_line bs) = subst (λ l. k ≤ length l) (behind_line-more b bs e) within in
        let gap : is_gap_from false false (take k (behind_line bs)) ≡ true = subst (λ l. is_gap_from false false (take k l) ≡ true) (behind_line-more b bs e) rest in
        ap (λ n. is_gap_from false true (take n (b ∷ bs))) sum ∙ ap (λ t. is_gap_from false (not t) (take (line_size bs + k) bs)) e ∙ more left gap

-- so does the last gap, which may end within it
last_gap-comment : (text : List ℕ) → is_gap_from true false (behind_line text) ≡ true → is_gap_from true true text ≡ true
last_gap-comment [] h = refl
last_gap-comment (b ∷ bs) h = by (b == line_feed) refl (last_gap-comment bs)
  where
    by : (t : Bool) → (b == line_feed) ≡ t → (is_gap_from true false (behind_line bs) ≡ true → is_gap_from true true bs ≡ true) → is_gap_from true true (b ∷ bs) ≡ true
    by true e more =
        let same : b ≡ line_feed = eqb-true b line_feed e in
        let there : is_gap_from true false (b ∷ bs) ≡ true = subst (λ l. is_gap_from true false l ≡ true) (behind_line-end b bs e) h in
        rw same (rw same at there)
    by false e more = rw e (more (subst (λ l. is_gap_from true false l ≡ true) (behind_line-more b bs e) h))

-- no token begins right behind a comment
comment-before : (text : List ℕ) (k : ℕ) → k < length (behind_line text) → begins is_blank (drop k (behind_line text)) ≡ false → 0 < k
comment-before text (suc k) some black = omega arith
comment-before [] zero some black = absurd (omega arith)
comment-before (b ∷ bs) zero some black = by (b == line_feed) refl (comment-before bs zero)
  where
    by : (t : Bool) → (b == line_feed) ≡ t → (0 < length (behind_line bs) → begins is_blank (behind_line bs) ≡ false → 0 < 0) → 0 < 0
    by true e more =
        let same : b ≡ line_feed = eqb-true b line_feed e in
        let there : is_blank b ≡ false = subst (λ l. begins is_blank l ≡ false) (behind_line-end b bs e) black in
        let wrong : true ≡ false = rw same at there in
        absurd cc
    by false e more = more (subst (λ l. 0 < length l) (behind_line-more b bs e) some) (subst (λ l. begins is_blank l ≡ false) (behind_line-more b bs e) black)

-- tokens that cover the rest of a text cover it, where the gap before the first is one
covers-shift : (at n : ℕ) (text : List ℕ) (token : Seen) (tokens : List Seen) → n ≤ length text → Covers (at + n) (drop n text) (token ∷ tokens)
    → is_gap (take (token.start - at) text) ≡ true → Covers at text (token ∷ tokens)
covers-shift at n text token tokens within covers gap =
    let next = covers.0 in
    let behind : at + n ≤ token.start = next.behind in
    let some : token.start < token.end = next.some in
    let ends : token.end ≤ at + n + length (drop n text) = next.within in
    let size : length (drop n text) ≡ length text - n = length-drop n text in
    let start : token.start - at ≡ n + (token.start - (at + n)) = omega arith in
    let end : token.end - at ≡ n + (token.end - (at + n)) = omega arith in
    let from_start : drop (token.start - at) text ≡ drop (token.start - (at + n)) (drop n text) = ap (λ k. drop k text) start ∙ drop-more n (token.start - (at + n)) text in
    let from_end : drop (token.end - at) text ≡ drop (token.end - (at + n)) (drop n text) = ap (λ k. drop k text) end ∙ drop-more n (token.end - (at + n)) text in (
      record {
        behind = omega arith;
        some = some;
        within = omega arith;
        gap = gap;
        black = ap (begins is_blank) from_start ∙ next.black;
        own = subst (λ l. IsTextOf token.kind token.text (take (token.end - token.start) l)) (sym from_start) next.own;
      },
      subst (λ l. Covers token.end l tokens) (sym from_end) covers.1,
    )

-- where they cover what stands behind a blank
covers-blank : (at b : ℕ) (bs : List ℕ) (tokens : List Seen) → is_blank b ≡ true → Covers (at + 1) bs tokens → Covers at (b ∷ bs) tokens
covers-blank at b bs [] blank covers = gap-blank true b bs blank covers
covers-blank at b bs (token ∷ tokens) blank covers =
    let behind : at + 1 ≤ token.start = covers.0.behind in
    let start : token.start - at ≡ suc (token.start - (at + 1)) = omega arith in
    covers-shift at 1 (b ∷ bs) token tokens (omega arith) covers
    (ap (λ k. is_gap (take k (b ∷ bs))) start ∙ gap-blank false b (take (token.start - (at + 1)) bs) blank covers.0.gap)

-- where they cover what stands behind a comment
covers-comment : (at b : ℕ) (bs : List ℕ) (tokens : List Seen) → b ≡ hash → Covers (at + suc (line_size bs)) (behind_line bs) tokens → Covers at (b ∷ bs) tokens
covers-comment at b bs [] h covers = rw h (last_gap-comment bs covers)
covers-comment at b bs (token ∷ tokens) h covers =
    let next = covers.0 in
    let behind : at + suc (line_size bs) ≤ token.start = next.behind in
    let some : token.start < token.end = next.some in
    let ends : token.end ≤ at + suc (line_size bs) + length (behind_line bs) = next.within in
    let inside : line_size bs ≤ length bs = prefix_len-le-length (λ b. not (b == line_feed)) bs in
    let before : token.start - (at + suc (line_size bs)) < length (behind_line bs) = omega arith in
    let far : 0 < token.start - (at + suc (line_size bs)) = comment-before bs (token.start - (at + suc (line_size bs))) before next.black in
    let start : token.start - at ≡ suc (line_size bs + (token.start - (at + suc (line_size bs)))) = omega arith in
    let within : token.start - (at + suc (line_size bs)) ≤ length (behind_line bs) = omega arith in
    let gap : is_gap_from false true (take (line_size bs + (token.start - (at + suc (line_size bs)))) bs) ≡ true =
    gap-comment bs (token.start - (at + suc (line_size bs))) far within next.gap in
    covers-shift at (suc (line_size bs)) (b ∷ bs) token tokens (omega arith) covers
    (ap (λ k. is_gap (take k (b ∷ bs))) start ∙ rw h gap)

-- where they cover what stands behind a token
covers-token : (at size : ℕ) (kind : TokenKind) (own text : List ℕ) (tokens : List Seen) → 1 ≤ size → size ≤ length text → IsTextOf kind own (take size text) → begins is_blank text ≡ false
    → Covers (at + size) (drop size text) tokens
    → Covers at text (record { kind = kind; text = own; start = at; end = at + size } ∷ tokens)
covers-token at size kind own text tokens some within told black covers =
    let none : at - at ≡ 0 = omega arith in
    let all : at + size - at ≡ size = omega arith in (
      record {
        behind = omega arith;
        some = omega arith;
        within = omega arith;
        gap = ap (λ n. is_gap (take n text)) none;
        black = ap (λ n. begins is_blank (drop n text)) none ∙ black;
        own = subst (λ n. IsTextOf kind own (take n (drop (at - at) text))) (sym all)
            (subst (λ n. IsTextOf kind own (take size (drop n text))) (sym none) told);
      },
      subst (λ n. Covers (at + size) (drop n text) tokens) (sym all) covers,
    )

-- a fault leaves no tokens
pub no_tokens : (fault : CutRefusal × ℕ) (tokens : List Seen) → ◌≡◌ {A = Result (List Seen) (CutRefusal × ℕ)} (Err fault) (Ok tokens) → ⊥
no_tokens fault tokens h = cc

-- tokens of which one was put first
pub before-ok : (token : Seen) (r : Result (List Seen) (CutRefusal × ℕ)) (tokens : List Seen) → before_tokens token r ≡ Ok tokens
    → (rest : List Seen) × (r ≡ Ok rest) × (tokens ≡ token ∷ rest)
before-ok token (Ok rest) tokens h = let same : tokens ≡ token ∷ rest = cc in (rest, refl, same)
before-ok token (Err fault) tokens h = absurd (no_tokens fault tokens h)

-- the tokens of a text cover it
pub covers-cut : (most at : ℕ) (values : Bool) (text : List ℕ) (tokens : List Seen) → length text ≤ most → cut at 0 values text ≡ Ok tokens → Covers at text tokens
covers-cut most at values [] [] few h = refl
covers-cut most at values [] (token ∷ tokens) few h = absurd cc
covers-cut zero at values (b ∷ bs) tokens few h = absurd (omega arith)
covers-cut (suc most) at values (b ∷ bs) tokens few h = by (is_blank b) refl (covers-cut most)
  where
    on : is_blank b ≡ false → ((at : ℕ) (values : Bool) (text : List ℕ) (tokens : List Seen) → length text ≤ most → cut at 0 values text ≡ Ok tokens → Covers at text tokens)
        → (p : Piece) → p ≡ piece_at values (b ∷ bs) → Fits (b ∷ bs) p → Tells (b ∷ bs) p → Covers at (b ∷ bs) tokens
    on black rest (Token kind own size) e fits tells =
        let some : 1 ≤ size = fits.0 in
        let within : size ≤ length (b ∷ bs) = fits.1 in
        let left : length (drop size (b ∷ bs)) ≤ most = omega (arith, length-drop size (b ∷ bs)) in
        let follow = values || is_assign kind in
        let token : Seen = record { kind = kind; text = own; start = at; end = at + size } in
        let all : before_tokens token (cut (at + size) 0 follow (drop size (b ∷ bs))) ≡ Ok tokens =
        ap (before_tokens token) (sym (cut-behind at size follow b bs some)) ∙ sym (cut-piece at values b bs (Token kind own size) (sym black) e) ∙ h
        in
        let found = before-ok token (cut (at + size) 0 follow (drop size (b ∷ bs))) tokens all in
        subst (Covers at (b ∷ bs)) (sym found.2)
        (covers-token at size kind own (b ∷ bs) found.0 some within tells black (rest (at + size) follow (drop size (b ∷ bs)) found.0 left found.1))
    on black rest (Comment size) e fits tells =
        let hashed : b ≡ hash = eqb-true b hash fits.0 in
        let other : (b == line_feed) ≡ false = rw hashed refl in
        let long : size ≡ suc (line_size bs) = fits.1 ∙ line_size-more b bs other in
        let some : 1 ≤ size = omega arith in
        let left : length (drop size (b ∷ bs)) ≤ most = let full : length (b ∷ bs) ≡ suc (length bs) = omega arith in omega (arith, length-drop size (b ∷ bs)) in
        let all : cut (at + size) 0 values (drop size (b ∷ bs)) ≡ Ok tokens =
        sym (cut-behind at size values b bs some) ∙ sym (cut-piece at values b bs (Comment size) (sym black) e) ∙ h
        in
        covers-comment at b bs tokens hashed
        (subst (λ n. Covers (at + n) (drop n (b ∷ bs)) tokens) long (rest (at + size) values (drop size (b ∷ bs)) tokens left all))
    on black rest (Fault refusal) e fits tells = absurd (no_tokens (refusal, at) tokens (sym (cut-piece at values b bs (Fault refusal) (sym black) e) ∙ h))

    by : (t : Bool) → is_blank b ≡ t → ((at : ℕ) (values : Bool) (text : List ℕ) (tokens : List Seen) → length text ≤ most → cut at 0 values text ≡ Ok tokens → Covers at text tokens)
        → Covers at (b ∷ bs) tokens
    by true e rest = covers-blank at b bs tokens e (rest (at + 1) (values && not (b == line_feed)) bs tokens (omega arith) (rw e at h))
    by false e rest = on e rest (piece_at values (b ∷ bs)) refl (piece_at-fits values b bs e) (piece_at-tells values b bs)
