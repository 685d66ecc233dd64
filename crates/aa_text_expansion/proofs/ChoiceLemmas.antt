-- Choices are put together from the left, a part at a time.
use Rattle.std.proofs.Common.{◌≡◌, ℕ, List, [], ◌∷◌, ◌++◌, map, refl, sym, ap, ◌∙◌}
use Rattle.aa_text_expansion.specs.Choices.{choices}
use Rattle.aa_text_expansion.specs.Joining.{cut_off, joined}
use Rattle.aa_text_expansion.specs.Parts.{Part, Byte, Name, Unclosed}
use Rattle.aa_text_expansion.proofs.JoiningLemmas.{cut_off-front, cut_off-same, joined-byte, joined-joined, joined-start}

-- the choices of some parts and of others
pub choices-append : (values : List ℕ → List (List ℕ)) (ps qs : List Part) → choices values (ps ++ qs) ≡ joined (choices values ps) (choices values qs)
choices-append values [] qs = sym (joined-start (choices values qs))
choices-append values (Byte b ∷ ps) qs = ap (map (λ rest. b ∷ rest)) (choices-append values ps qs) ∙ sym (joined-byte b (choices values ps) (choices values qs))
choices-append values (Name name ∷ ps) qs = ap (joined (values name)) (choices-append values ps qs) ∙ sym (joined-joined (values name) (choices values ps) (choices values qs))
choices-append values (Unclosed ∷ ps) qs = refl

-- bytes are one choice
pub choices-bytes : (values : List ℕ → List (List ℕ)) (bytes : List ℕ) → choices values (map Byte bytes) ≡ bytes ∷ []
choices-bytes values [] = refl
choices-bytes values (b ∷ bs) = ap (map (λ rest. b ∷ rest)) (choices-bytes values bs)

-- what is a function of names alone has the same choices
pub choices-same : (values others : List ℕ → List (List ℕ)) → ((name : List ℕ) → values name ≡ others name) → (ps : List Part) → choices values ps ≡ choices others ps
choices-same values others same [] = refl
choices-same values others same (Byte b ∷ ps) = ap (map (λ rest. b ∷ rest)) (choices-same values others same ps)
choices-same values others same (Name name ∷ ps) = rw (same name, choices-same values others same ps) refl
choices-same values others same (Unclosed ∷ ps) = refl

-- the texts so far, one more part, and the rest
pub expand-part : (values : List ℕ → List (List ℕ)) (texts longer next : List (List ℕ)) (part rest ps : List Part) → part ++ rest ≡ ps
    → cut_off next ≡ cut_off (choices values part) → cut_off longer ≡ cut_off (joined texts next)
    → cut_off (joined longer (choices values rest)) ≡ cut_off (joined texts (choices values ps))
expand-part values texts longer next part rest ps e n l =
    sym (cut_off-front longer (choices values rest)) ∙ ap (λ all. cut_off (joined all (choices values rest))) (l ∙ cut_off-same texts next (choices values part) n)
    ∙ cut_off-front (joined texts (choices values part)) (choices values rest)
    ∙ ap cut_off (joined-joined texts (choices values part) (choices values rest) ∙ ap (joined texts) (sym (choices-append values part rest) ∙ ap (choices values) e))
