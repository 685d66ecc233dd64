-- Paths without the slashes at their end.
use Rattle.std.proofs.Common.{◌≡◌, ◌≢◌, ◌∙◌, ◌==◌, ◌&&◌, ℕ, Bool, true, false, List, [], ◌∷◌, ◌++◌, refl, ap, arith, cond}
use Rattle.std.proofs.lemmas.Bool.Decides.{nat_tests}
use Rattle.aa_bytes.specs.Bytes.{slash}
use Rattle.aatry_report.specs.FilePlaces.{are_slashes, without_slashes}

one-slash : (front : List ℕ) → are_slashes (front ++ slash ∷ []) ≡ are_slashes front
one-slash [] = refl
one-slash (b ∷ bs) = ap (λ t. (b == slash) && t) (one-slash bs)

-- one slash at the end is one that goes
pub slash_goes : (front : List ℕ) → without_slashes (front ++ slash ∷ []) ≡ without_slashes front
slash_goes [] = refl
slash_goes (b ∷ bs) =
    ap (λ t. cond ((b == slash) && t) [] (b ∷ without_slashes (bs ++ slash ∷ []))) (one-slash bs)
    ∙ ap (λ l. cond ((b == slash) && are_slashes bs) [] (b ∷ l)) (slash_goes bs)

none-else : (front : List ℕ) (last : ℕ) → (last == slash) ≡ false → are_slashes (front ++ last ∷ []) ≡ false
none-else [] last h = ap (λ t. t && true) h
none-else (b ∷ bs) last h = ap (λ t. (b == slash) && t) (none-else bs last h) ∙ by (b == slash)
  where
    by : (t : Bool) → (t && false) ≡ false
    by true = refl
    by false = refl

-- any other byte stays
stays : (front : List ℕ) (last : ℕ) → (last == slash) ≡ false → without_slashes (front ++ last ∷ []) ≡ front ++ last ∷ []
stays [] last h = ap (λ t. cond (t && true) [] (last ∷ [])) h
stays (b ∷ bs) last h =
    ap (λ t. cond t [] (b ∷ without_slashes (bs ++ last ∷ []))) (none-else (b ∷ bs) last h) ∙ ap (λ l. b ∷ l) (stays bs last h)

pub other_stays : (front : List ℕ) (last : ℕ) → last ≢ slash → without_slashes (front ++ last ∷ []) ≡ front ++ last ∷ []
other_stays front last off = let test : (last == slash) ≡ false = grind (arith, nat_tests) in stays front last test
