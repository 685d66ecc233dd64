-- What a walk over a list leaves that writes each of its items.
use Rattle.std.proofs.Common.{◌≡◌, ◌∙◌, ◌<◌, ◌+◌, ℕ, List, [], ◌∷◌, ◌++◌, add-one, ap, drop, get_or, length, map, set, sym, take}
use Rattle.std.proofs.Math.Numerals.{lt-add-one}
use Rattle.std.proofs.Math.Seq.{take-suc}
use Rattle.std.proofs.lemmas.List.{drop-set-lt, drop_more, map-append, take_more_set}

-- one item more is what a function makes of it, and the others are as they were
pub one_mapped : {A : Type 0} (f : A → A) (first now : List A) (i : ℕ) (d x : A) → i < length first → i < length now → x ≡ f (get_or now i d)
    → take i now ≡ map f (take i first) → drop i now ≡ drop i first
    → (take (i + 1) (set now i x) ≡ map f (take (i + 1) first)) × (drop (i + 1) (set now i x) ≡ drop (i + 1) first)
one_mapped f first now i d x within there is done left =
    let both : get_or now i d ∷ drop (i + 1) now ≡ get_or first i d ∷ drop (i + 1) first = sym (drop_more now i d there) ∙ left ∙ drop_more first i d within in
    let head : get_or now i d ≡ get_or first i d = cc in
    let rest : drop (i + 1) now ≡ drop (i + 1) first = cc in (
      take_more_set now i x there
          ∙ ap (λ t. t ++ x ∷ []) done
          ∙ ap (λ y. map f (take i first) ++ y ∷ []) (is ∙ ap f head)
          ∙ sym (map-append f (take i first) (get_or first i d ∷ []))
          ∙ ap (map f) (sym (ap (λ n. take n first) (add-one i) ∙ take-suc first i d within)),
      drop-set-lt (i + 1) now i x (lt-add-one i) ∙ rest,
    )
