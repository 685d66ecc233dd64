-- What stands between the line feeds of a text, from its front.
use Rattle.std.proofs.Common.{◌≡◌, ℕ, Bool, true, false, cond, List, [], ◌∷◌, ◌++◌, refl, sym, ap, ◌∙◌, append-nil}
use Rattle.std.specs.List.{list_any, onto_first, slice_split}
use Rattle.std.proofs.lemmas.Bool.{or_parts, cond-true, cond-false}
use Rattle.aa_bytes.specs.Texts.{is_empty}
use Rattle.aa_set_commands.specs.Lines.{without_empty_last, without_last}

-- a text without separators is its one piece
pub split-whole : (p : ℕ → Bool) (w : List ℕ) → list_any p w ≡ false → slice_split p w ≡ w ∷ []
split-whole p [] h = refl
split-whole p (b ∷ bs) h =
    let parts = or_parts (p b) (list_any p bs) h in
    cond-false (p b) _ _ parts.0 ∙ ap (onto_first b) (split-whole p bs parts.1)

-- what stands before the first separator is the first piece
pub split-front : (p : ℕ → Bool) (w : List ℕ) (s : ℕ) (rest : List ℕ) → list_any p w ≡ false → p s ≡ true → slice_split p (w ++ s ∷ rest) ≡ w ∷ slice_split p rest
split-front p [] s rest h e = cond-true (p s) _ _ e
split-front p (b ∷ bs) s rest h e =
    let parts = or_parts (p b) (list_any p bs) h in
    cond-false (p b) _ _ parts.0 ∙ ap (onto_first b) (split-front p bs s rest parts.1 e)

-- the last of some pieces and the first of others are one
abbrev pub joined : List (List ℕ) → List (List ℕ) → List (List ℕ)
joined [] others = others
joined (x ∷ []) [] = x ∷ []
joined (x ∷ []) (y ∷ ys) = (x ++ y) ∷ ys
joined (x ∷ next ∷ xs) others = x ∷ joined (next ∷ xs) others

onto_first-joined : (b : ℕ) (xs : List (List ℕ)) (y : List ℕ) (ys : List (List ℕ)) → onto_first b (joined xs (y ∷ ys)) ≡ joined (onto_first b xs) (y ∷ ys)
onto_first-joined b [] y ys = refl
onto_first-joined b (x ∷ []) y ys = refl
onto_first-joined b (x ∷ next ∷ xs) y ys = refl

-- there is a first piece
pub first_piece : (p : ℕ → Bool) (a : List ℕ) → (x : List ℕ) × (xs : List (List ℕ)) × (slice_split p a ≡ x ∷ xs)
first_piece p [] = ([], [], refl)
first_piece p (b ∷ bs) =
    let rest = first_piece p bs in
    elim (p b) as (λ t. (x : List ℕ) × (xs : List (List ℕ)) × (cond t ([] ∷ slice_split p bs) (onto_first b (slice_split p bs)) ≡ x ∷ xs)) [
      | true ↦ ([], slice_split p bs, refl)
      | false ↦ (b ∷ rest.0, rest.1, ap (onto_first b) rest.2)
    ]

joined-step : (t : Bool) (c : ℕ) (whole xs ys : List (List ℕ)) (x y : List ℕ) (xs' ys' : List (List ℕ)) → xs ≡ x ∷ xs' → ys ≡ y ∷ ys' → whole ≡ joined xs ys
    → cond t ([] ∷ whole) (onto_first c whole) ≡ joined (cond t ([] ∷ xs) (onto_first c xs)) ys
joined-step true c whole xs ys x y xs' ys' p q e =
    ap (λ zs. [] ∷ zs) (e ∙ ap (λ zs. joined zs ys) p) ∙ sym (ap (λ zs. joined ([] ∷ zs) ys) p)
joined-step false c whole xs ys x y xs' ys' p q e =
    ap (onto_first c) (e ∙ ap (joined xs) q) ∙ onto_first-joined c xs y ys' ∙ sym (ap (joined (onto_first c xs)) q)

-- the pieces of two texts, one behind the other
pub split-append : (p : ℕ → Bool) (a b : List ℕ) → slice_split p (a ++ b) ≡ joined (slice_split p a) (slice_split p b)
split-append p [] b = let first = first_piece p b in first.2 ∙ sym (ap (joined ([] ∷ [])) first.2)
split-append p (c ∷ cs) b =
    let front = first_piece p cs in
    let back = first_piece p b in
    joined-step (p c) c (slice_split p (cs ++ b)) (slice_split p cs) (slice_split p b) front.0 back.0 front.1 back.1 front.2 back.2 (split-append p cs b)

-- further pieces begin with what goes onto the last
pub joined-last : (ls : List (List ℕ)) (u y : List ℕ) (ys : List (List ℕ)) → joined (ls ++ u ∷ []) (y ∷ ys) ≡ ls ++ (u ++ y) ∷ ys
joined-last [] u y ys = refl
joined-last (l ∷ []) u y ys = refl
joined-last (l ∷ m ∷ ls) u y ys = ap (λ zs. l ∷ zs) (joined-last (m ∷ ls) u y ys)

-- a last piece that is empty is no line
pub without_empty_last-empty : (ls : List (List ℕ)) → without_empty_last (ls ++ [] ∷ []) ≡ ls
without_empty_last-empty [] = refl
without_empty_last-empty (l ∷ []) = refl
without_empty_last-empty (l ∷ m ∷ ls) = ap (λ zs. l ∷ zs) (without_empty_last-empty (m ∷ ls))

-- one that isn't is the last line
pub without_empty_last-filled : (ls : List (List ℕ)) (u : List ℕ) → is_empty u ≡ false → without_empty_last (ls ++ u ∷ []) ≡ ls ++ u ∷ []
without_empty_last-filled [] u h = cond-false (is_empty u) _ _ h
without_empty_last-filled (l ∷ []) u h = ap (λ zs. l ∷ zs) (cond-false (is_empty u) _ _ h)
without_empty_last-filled (l ∷ m ∷ ls) u h = ap (λ zs. l ∷ zs) (without_empty_last-filled (m ∷ ls) u h)

-- pieces but for the last
pub without_last-push : (ls : List (List ℕ)) (u : List ℕ) → without_last (ls ++ u ∷ []) ≡ ls
without_last-push [] u = refl
without_last-push (l ∷ []) u = refl
without_last-push (l ∷ m ∷ ls) u = ap (λ zs. l ∷ zs) (without_last-push (m ∷ ls) u)

-- pieces before others stay
pub without_last-append : (ls : List (List ℕ)) (u : List ℕ) (us : List (List ℕ)) → without_last (ls ++ u ∷ us) ≡ ls ++ without_last (u ∷ us)
without_last-append [] u us = refl
without_last-append (l ∷ []) u us = refl
without_last-append (l ∷ m ∷ ls) u us = ap (λ zs. l ∷ zs) (without_last-append (m ∷ ls) u us)

-- there is a last piece
pub last_piece : (p : ℕ → Bool) (a : List ℕ) → (ls : List (List ℕ)) × (u : List ℕ) × (slice_split p a ≡ ls ++ u ∷ [])
last_piece p a = let first = first_piece p a in let found = ending first.0 first.1 in (found.0, found.1, first.2 ∙ found.2)
  where
    ending : (x : List ℕ) (xs : List (List ℕ)) → (ls : List (List ℕ)) × (u : List ℕ) × (x ∷ xs ≡ ls ++ u ∷ [])
    ending x [] = ([], x, refl)
    ending x (y ∷ ys) = let rest = ending y ys in (x ∷ rest.0, rest.1, ap (λ zs. x ∷ zs) rest.2)

-- a last piece is a line where it isn't empty
pub without_empty_last-some : (ls : List (List ℕ)) (u : List ℕ) → (more : List (List ℕ)) × (without_empty_last (ls ++ u ∷ []) ≡ ls ++ more)
without_empty_last-some ls [] = ([], without_empty_last-empty ls ∙ sym (append-nil ls))
without_empty_last-some ls (b ∷ bs) = ((b ∷ bs) ∷ [], without_empty_last-filled ls (b ∷ bs) refl)
