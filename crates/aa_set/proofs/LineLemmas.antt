-- Fronts of lines, as a line buffer holds them.
use Rattle.std.proofs.Common.{◌≡◌, ℕ, ◌+◌, List, [], ◌∷◌, ◌++◌, length, take, refl, ap, ◌∙◌, arith, inl, inr, add-one, sym}
use Rattle.std.proofs.lemmas.Bool.{cases_lt}
use Rattle.std.proofs.lemmas.List.{take_all, take-append-le, length-take-le, take-take}

-- what is dropped behind a front changes no front as long
pub take-of_front : (n : ℕ) (xs ys : List ℕ) → take n (take n xs ++ ys) ≡ take n (xs ++ ys)
take-of_front n xs ys = elim (cases_lt n (length xs)) [
  | inl longer ↦
      let size = length-take-le n xs (omega arith) in
      take-append-le n (take n xs) ys (omega arith) ∙ take-take n n xs (omega arith) ∙ sym (take-append-le n xs ys (omega arith))
  | inr shorter ↦ ap (λ zs. take n (zs ++ ys)) (take_all n xs shorter)
]

-- nothing is in front of an empty text alone
pub nothing_held : (n : ℕ) (xs : List ℕ) → length (take (n + 1) xs) ≡ 0 → xs ≡ []
nothing_held n [] h = refl
nothing_held n (x ∷ xs) h = let some = rw add-one at h in absurd (omega arith)
