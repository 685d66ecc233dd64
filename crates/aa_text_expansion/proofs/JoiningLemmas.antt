-- Texts are put together from the left, and no text grows longer than where it is cut off.
use Rattle.std.proofs.Common.{◌≡◌, ℕ, zero, suc, ◌-◌, ◌≤◌, List, [], ◌∷◌, ◌++◌, map, min, take, length, append-nil, append_assoc, arith, refl, sym, ap, ◌∙◌}
use Rattle.std.proofs.lemmas.Grind.{flat_map-append}
use Rattle.std.proofs.lemmas.List.{map-append, take-take, take_min}
use Rattle.aa_text_expansion.specs.Joining.{cut_off, joined, most_kept}

-- The same is put behind each text.
pub map-ends : {A B C : Type 0} (f : A → B) (g : B → C) (xs : List A) → map g (map f xs) ≡ map (λ x. g (f x)) xs
map-ends f g [] = refl
map-ends f g (x ∷ xs) = ap (◌∷◌ (g (f x))) (map-ends f g xs)

-- the ends of texts that stand in two lists
pub joined-append : (texts others ends : List (List ℕ)) → joined (texts ++ others) ends ≡ joined texts ends ++ joined others ends
joined-append texts others ends = flat_map-append (λ text. map (λ end. text ++ end) ends) texts others

-- one end
pub joined-single : (texts : List (List ℕ)) (end : List ℕ) → joined texts (end ∷ []) ≡ map (λ text. text ++ end) texts
joined-single [] end = refl
joined-single (text ∷ texts) end = ap (◌∷◌ (text ++ end)) (joined-single texts end)

-- no text grows by a cut
pub take-min : (most : ℕ) (text : List ℕ) → take (min (length text) most) text ≡ take most text
take-min most text = let same : min (length text) most ≡ min most (length text) = omega arith in rw same (take_min most text)

-- an end of which as much is taken as there is room for
take-room : (most : ℕ) (text end : List ℕ) → take most text ++ take (most - length (take most text)) end ≡ take most (text ++ end)
take-room zero [] end = refl
take-room zero (b ∷ bs) end = refl
take-room (suc most) [] end = let room : suc most - 0 ≡ suc most = omega arith in rw room refl
take-room (suc most) (b ∷ bs) end =
    let room : suc most - suc (length (take most bs)) ≡ most - length (take most bs) = omega arith in
    ap (◌∷◌ b) (rw room (take-room most bs end))

-- a text, and as much of its end as there is room for
pub take-joined : (text end front : List ℕ) (size : ℕ) → front ≡ take most_kept text → size ≡ min (length end) (4097 - length front)
    → front ++ take size end ≡ take most_kept (text ++ end)
take-joined text end front size f s = rw (s, take-min (4097 - length front) end, f) (take-room most_kept text end)

-- the texts of two lists are cut
pub cut_off-append : (texts others : List (List ℕ)) → cut_off (texts ++ others) ≡ cut_off texts ++ cut_off others
cut_off-append texts others = map-append (take most_kept) texts others

-- two ways to put something behind texts, which agree
pub map-same : {A B : Type 0} (f g : A → B) (xs : List A) → ((x : A) → f x ≡ g x) → map f xs ≡ map g xs
map-same f g [] same = refl
map-same f g (x ∷ xs) same = rw (same x, map-same f g xs same) refl

-- ends behind ends of one text
joined-one : (text : List ℕ) (ends more : List (List ℕ)) → joined (map (λ end. text ++ end) ends) more ≡ map (λ end. text ++ end) (joined ends more)
joined-one text [] more = refl
joined-one text (end ∷ ends) more =
    let first : map (λ last. (text ++ end) ++ last) more ≡ map (λ all. text ++ all) (map (λ last. end ++ last) more) =
    map-same (λ last. (text ++ end) ++ last) (λ last. text ++ (end ++ last)) more (λ last. append_assoc text end last) ∙ sym (map-ends (λ last. end ++ last) (λ all. text ++ all) more) in
    rw (first, joined-one text ends more) (sym (map-append (λ all. text ++ all) (map (λ last. end ++ last) more) (joined ends more)))

-- ends behind ends
pub joined-joined : (texts ends more : List (List ℕ)) → joined (joined texts ends) more ≡ joined texts (joined ends more)
joined-joined [] ends more = refl
joined-joined (text ∷ texts) ends more =
    joined-append (map (λ end. text ++ end) ends) (joined texts ends) more ∙ rw (joined-one text ends more, joined-joined texts ends more) refl

-- one byte before texts
pub joined-byte : (b : ℕ) (ends more : List (List ℕ)) → joined (map (λ rest. b ∷ rest) ends) more ≡ map (λ rest. b ∷ rest) (joined ends more)
joined-byte b ends more = joined-one (b ∷ []) ends more

-- no end but the empty one
pub joined-nil : (texts : List (List ℕ)) → joined texts ([] ∷ []) ≡ texts
joined-nil [] = refl
joined-nil (text ∷ texts) = rw (append-nil text, joined-nil texts) refl

-- no text but the empty one
pub joined-start : (ends : List (List ℕ)) → joined ([] ∷ []) ends ≡ ends
joined-start [] = refl
joined-start (end ∷ ends) = ap (◌∷◌ end) (joined-start ends)

-- no ends
pub joined-none : (texts : List (List ℕ)) → joined texts [] ≡ []
joined-none [] = refl
joined-none (text ∷ texts) = joined-none texts

-- What is cut from a text may be cut before another is put behind it.
pub take-front : (most : ℕ) (text end : List ℕ) → take most (take most text ++ end) ≡ take most (text ++ end)
take-front zero [] end = refl
take-front zero (b ∷ bs) end = refl
take-front (suc most) [] end = refl
take-front (suc most) (b ∷ bs) end = ap (◌∷◌ b) (take-front most bs end)

-- The front may be cut before.
pub cut_off-front : (texts ends : List (List ℕ)) → cut_off (joined (cut_off texts) ends) ≡ cut_off (joined texts ends)
cut_off-front [] ends = refl
cut_off-front (text ∷ texts) ends =
    let first : cut_off (map (λ end. take most_kept text ++ end) ends) ≡ cut_off (map (λ end. text ++ end) ends) =
    map-ends (λ end. take most_kept text ++ end) (take most_kept) ends ∙ map-same (λ end. take most_kept (take most_kept text ++ end)) (λ end. take most_kept (text ++ end)) ends (take-front most_kept text) ∙ sym (map-ends (λ end. text ++ end) (take most_kept) ends) in
    cut_off-append (map (λ end. take most_kept text ++ end) ends) (joined (cut_off texts) ends)
    ∙ rw (first, cut_off-front texts ends) (sym (cut_off-append (map (λ end. text ++ end) ends) (joined texts ends)))

-- What is cut from a text may be cut from its end before.
pub take-end : (most more : ℕ) (text end : List ℕ) → most ≤ more → take most (text ++ take more end) ≡ take most (text ++ end)
take-end most more [] end h = take-take most more end h
take-end zero more (b ∷ bs) end h = refl
take-end (suc most) more (b ∷ bs) end h = ap (◌∷◌ b) (take-end most more bs end (omega arith))

-- The ends of one text may be cut before.
pub cut_off-end-one : (text : List ℕ) (ends : List (List ℕ)) → cut_off (map (λ end. text ++ end) (cut_off ends)) ≡ cut_off (map (λ end. text ++ end) ends)
cut_off-end-one text [] = refl
cut_off-end-one text (end ∷ ends) = rw (take-end most_kept most_kept text end (omega arith), cut_off-end-one text ends) refl

-- The ends may be cut before.
pub cut_off-ends : (texts ends : List (List ℕ)) → cut_off (joined texts (cut_off ends)) ≡ cut_off (joined texts ends)
cut_off-ends [] ends = refl
cut_off-ends (text ∷ texts) ends =
    cut_off-append (map (λ end. text ++ end) (cut_off ends)) (joined texts (cut_off ends))
    ∙ rw (cut_off-end-one text ends, cut_off-ends texts ends) (sym (cut_off-append (map (λ end. text ++ end) ends) (joined texts ends)))

-- Ends that are cut to the same may stand for one another.
pub cut_off-same : (texts ends others : List (List ℕ)) → cut_off ends ≡ cut_off others → cut_off (joined texts ends) ≡ cut_off (joined texts others)
cut_off-same texts ends others e = sym (cut_off-ends texts ends) ∙ ap (λ all. cut_off (joined texts all)) e ∙ cut_off-ends texts others
