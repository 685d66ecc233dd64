-- The cut of a text, piece by piece.
use Rattle.std.proofs.Common.{◌≡◌, ℕ, zero, suc, ◌+◌, ◌-◌, ◌<◌, ◌≤◌, ◌||◌, Bool, false, List, [], ◌∷◌, ◌++◌, length, get_or, map, drop, Result, Ok, Err, refl, sym, ap, ◌∙◌, arith, append_assoc}
use Rattle.std.proofs.lemmas.Bool.{cond-false}
use Rattle.std.proofs.lemmas.List.{map-append}
use Rattle.aa_bytes.specs.Bytes.{is_blank}
use Rattle.aa_text_tokens.specs.Cut.{Comment, Piece, Seen, Token, before_tokens, cut, cut_on, is_assign, piece_at}
use Rattle.aa_text_tokens.specs.code.Tokens.{with_tokens}
use Rattle.aa_text_tokens.specs.SeenTokens.{seen}
use Rattle.aa_text_tokens.specs.declared.cut.CutRefusal.{CutRefusal}
use Rattle.aa_text_tokens.specs.declared.cut.Token.{Token as CodeToken}
use Rattle.aa_text_tokens.specs.declared.cut.TokenKind.{TokenKind}

-- bytes that belong to the piece before are left out
cut-skips : (at n : ℕ) (values : Bool) (text : List ℕ) → cut at n values text ≡ cut (at + n) 0 values (drop n text)
cut-skips at zero values text = let same : at ≡ at + 0 = omega arith in ap (λ k. cut k 0 values text) same
cut-skips at (suc n) values [] = refl
cut-skips at (suc n) values (b ∷ bs) =
    let same : at + 1 + n ≡ at + suc n = omega arith in
    cut-skips (at + 1) n values bs ∙ ap (λ k. cut k 0 values (drop n bs)) same

-- so are the bytes of a piece behind its first
pub cut-behind : (at size : ℕ) (values : Bool) (b : ℕ) (bs : List ℕ) → 1 ≤ size → cut (at + 1) (size - 1) values bs ≡ cut (at + size) 0 values (drop size (b ∷ bs))
cut-behind at zero values b bs some = absurd (omega arith)
cut-behind at (suc n) values b bs some =
    let one : suc n - 1 ≡ n = omega arith in
    let same : at + 1 + n ≡ at + suc n = omega arith in
    rw one (cut-skips (at + 1) n values bs ∙ ap (λ k. cut k 0 values (drop n bs)) same)

-- the cut at a piece
pub cut-piece : (at : ℕ) (values : Bool) (b : ℕ) (bs : List ℕ) (p : Piece) → false ≡ is_blank b → p ≡ piece_at values (b ∷ bs)
    → cut at 0 values (b ∷ bs) ≡ cut_on at values p (λ left values. cut (at + 1) left values bs)
cut-piece at values b bs p black is_piece =
    cond-false (is_blank b) _ _ (sym black) ∙ ap (λ q. cut_on at values q (λ left values. cut (at + 1) left values bs)) (sym is_piece)

pub cut-comment : (at size : ℕ) (values : Bool) (text : List ℕ) → 0 < length text → false ≡ is_blank (get_or text 0 0) → Comment size ≡ piece_at values text → 1 ≤ size
    → cut (at + size) 0 values (drop size text) ≡ cut at 0 values text
cut-comment at size values [] filled black is_piece some = absurd (omega arith)
cut-comment at size values (b ∷ bs) filled black is_piece some =
    sym (cut-piece at values b bs (Comment size) black is_piece ∙ cut-behind at size values b bs some)

-- a token with this text
abbrev pub seen_as : ℕ → ℕ → TokenKind → List ℕ → Seen
seen_as at size kind text = record { kind = kind; text = text; start = at; end = at + size }

with_tokens-more : (front : List Seen) (token : Seen) (more : Result (List Seen) (CutRefusal × ℕ)) → with_tokens (front ++ token ∷ []) more ≡ with_tokens front (before_tokens token more)
with_tokens-more front token (Ok tokens) = ap Ok (append_assoc front (token ∷ []) tokens)
with_tokens-more front token (Err fault) = refl

pub cut-token : (old new : List CodeToken) (token : CodeToken) (at size : ℕ) (values : Bool) (kind : TokenKind) (own text : List ℕ)
    → 0 < length text → false ≡ is_blank (get_or text 0 0) → Token kind own size ≡ piece_at values text → 1 ≤ size
    → new ≡ old ++ token ∷ [] → seen token ≡ seen_as at size kind own
    → with_tokens (map seen new) (cut (at + size) 0 (values || is_assign kind) (drop size text)) ≡ with_tokens (map seen old) (cut at 0 values text)
cut-token old new token at size values kind own [] filled black is_piece some put is_token = absurd (omega arith)
cut-token old new token at size values kind own (b ∷ bs) filled black is_piece some put is_token =
    let follow = values || is_assign kind in
    let rest = cut (at + size) 0 follow (drop size (b ∷ bs)) in
    ap (λ tokens. with_tokens (map seen tokens) rest) put
    ∙ ap (λ tokens. with_tokens tokens rest) (map-append seen old (token ∷ []))
    ∙ with_tokens-more (map seen old) (seen token) rest
    ∙ ap (λ s. with_tokens (map seen old) (before_tokens s rest)) is_token
    ∙ ap (λ more. with_tokens (map seen old) (before_tokens (seen_as at size kind own) more)) (sym (cut-behind at size follow b bs some))
    ∙ ap (with_tokens (map seen old)) (sym (cut-piece at values b bs (Token kind own size) black is_piece))
