-- How many choices there are: counting goes along the parts of a text, and stops at a bound.
use Rattle.std.proofs.Common.{◌≡◌, ℕ, zero, suc, ◌+◌, ◌*◌, ◌≤◌, List, [], ◌∷◌, ◌++◌, map, min, length, length-append, arith, inl, inr, refl, sym, ap, ◌∙◌}
use Rattle.std.proofs.lemmas.Bool.{cases_lt}
use Rattle.std.proofs.lemmas.List.{length-map}
use Rattle.std.proofs.lemmas.List.Sums.{sum_by-cons, sum_by_push}
use Rattle.std.proofs.Math.Nat.{mul-le-mul_left}
use Rattle.aa_text_expansion.specs.Choices.{choice_count, choices, choices_within}
use Rattle.aa_text_expansion.specs.Counting.{IsCounted, count_of, counted, counted_words, most_counted}
use Rattle.aa_text_expansion.specs.Joining.{joined}
use Rattle.aa_text_expansion.specs.Names.{EachName, EachNameWithin}
use Rattle.aa_text_expansion.specs.Parts.{Part, Byte, Name, Unclosed, parts}

-- bytes are no choice
pub choices-of_bytes : (counts : List ℕ → ℕ) (bytes : List ℕ) → 1 ≡ choice_count counts (map Byte bytes)
choices-of_bytes counts [] = refl
choices-of_bytes counts (b ∷ bs) = choices-of_bytes counts bs

-- the choices of some parts and of others
pub choices-append : (counts : List ℕ → ℕ) (ps qs : List Part) → choice_count counts (ps ++ qs) ≡ choice_count counts ps * choice_count counts qs
choices-append counts [] qs = omega arith
choices-append counts (Byte b ∷ ps) qs = choices-append counts ps qs
choices-append counts (Name name ∷ ps) qs = rw (choices-append counts ps qs) (omega arith)
choices-append counts (Unclosed ∷ ps) qs = omega arith

-- A factor may be cut at the bound.
pub min-times : (a b most : ℕ) → min (min a most * b) most ≡ min (a * b) most
min-times a b most = elim (cases_lt a most) [
  | inl less ↦ let same : min a most ≡ a = omega arith in rw same refl
  | inr more ↦ let same : min a most ≡ most = omega arith in rw same (beyond b more)
]
  where
    beyond : (b : ℕ) → most ≤ a → min (most * b) most ≡ min (a * b) most
    beyond zero more = omega arith
    beyond (suc b) more =
        let first : most * 1 ≤ most * suc b = mul-le-mul_left most (omega arith) in
        let second : a * 1 ≤ a * suc b = mul-le-mul_left a (omega arith) in
        omega arith

-- a product that is cut at each step
pub min-product : (a t p most fits : ℕ) → most ≤ fits → min (min (min (a * t) fits) most * p) most ≡ min (a * (t * p)) most
min-product a t p most fits h =
    let cut : min (min (a * t) fits) most ≡ min (a * t) most = omega arith in
    let same : (a * t) * p ≡ a * (t * p) = omega arith in
    rw (cut, min-times (a * t) p most, same) refl

-- the parts so far, one more part, and the rest
pub count-part : (counts : List ℕ → ℕ) (so_far times fits : ℕ) (part rest ps : List Part) → part ++ rest ≡ ps → times ≡ choice_count counts part → most_counted ≤ fits
    → min (min (min (so_far * times) fits) most_counted * choice_count counts rest) most_counted ≡ min (so_far * choice_count counts ps) most_counted
count-part counts so_far times fits part rest ps e t h =
    min-product so_far times (choice_count counts rest) most_counted fits h
    ∙ ap (λ all. min (so_far * all) most_counted) (ap (λ n. n * choice_count counts rest) t ∙ sym (choices-append counts part rest) ∙ ap (choice_count counts) e)

-- the words so far, and one more
pub count-word : (counts : List ℕ → ℕ) (words : List (List ℕ)) (word : List ℕ) (fits : ℕ) → most_counted ≤ fits
    → min (min (counted_words counts words + counted counts word) fits) most_counted ≡ counted_words counts (words ++ word ∷ [])
count-word counts words word fits h = rw (sum_by_push (counted counts) words word) (omega arith)

-- the other factor may be cut as well
pub min-factor : (a p q most : ℕ) → min p most ≡ min q most → min (a * p) most ≡ min (a * q) most
min-factor a p q most e =
    let left : a * p ≡ p * a = omega arith in
    let right : q * a ≡ a * q = omega arith in
    ap (λ n. min n most) left ∙ sym (min-times p a most) ∙ ap (λ n. min (n * a) most) e ∙ min-times q a most ∙ ap (λ n. min n most) right

-- the choices of a value and of one of the texts behind it
pub length-pairs : (values texts : List (List ℕ)) → length (joined values texts) ≡ length values * length texts
length-pairs [] texts = omega arith
length-pairs (value ∷ values) texts =
    rw (length-append (map (λ rest. value ++ rest) texts) (joined values texts), length-map texts (λ rest. value ++ rest), length-pairs values texts) (omega arith)

-- Where the values of names are counted, so are the choices.
module _ (counts : List ℕ → ℕ) (values : List ℕ → List (List ℕ)) where
  -- of parts
  pub parts-counted : (ps : List Part) → EachName (IsCounted counts values) ps → min (choice_count counts ps) most_counted ≡ count_of (choices values ps)
  parts-counted [] each = refl
  parts-counted (Byte b ∷ ps) each = rw (length-map (choices values ps) (λ rest. b ∷ rest)) (parts-counted ps each)
  parts-counted (Unclosed ∷ ps) each = refl
  parts-counted (Name name ∷ ps) each =
      rw (length-pairs (values name) (choices values ps), each.0)
      (min-times (length (values name)) (choice_count counts ps) most_counted ∙ min-factor (length (values name)) _ _ most_counted (parts-counted ps each.1))

  -- of words
  pub words-counted : (words : List (List ℕ)) → EachNameWithin (IsCounted counts values) words → counted_words counts words ≡ count_of (choices_within values words)
  words-counted [] each = refl
  words-counted (word ∷ words) each =
      let first : min (choice_count counts (parts word)) most_counted ≡ count_of (choices values (parts word)) = parts-counted (parts word) each.0 in
      let rest = words-counted words each.1 in
      rw (length-append (choices values (parts word)) (choices_within values words), sum_by-cons (counted counts) word words) (omega arith)
