-- Two lists of the same patterns fit a path equally well.
use Rattle.std.proofs.Common.{◌≡◌, ℕ, zero, suc, ◌≤◌, Bool, true, false, List, [], ◌∷◌, arith, refl, subst}
use Rattle.std.specs.Prelude.{fold, if◌then◌else◌, nat_le}
use Rattle.std.specs.List.{Contains}
use Rattle.std.proofs.lemmas.Bool.{leb-false, leb-true}
use Rattle.aa_decide_rules.specs.Ranks.{best_rank, greater, rank}
use Rattle.aa_explain_diff.specs.Alike.{HaveSameTexts}

-- the greater of two is below neither, and not above what is above both
greater-most : (one other : ℕ) → (one ≤ greater one other) × (other ≤ greater one other)
greater-most one other = by (nat_le one other) refl
  where
    by : (b : Bool) → nat_le one other ≡ b → (one ≤ (if b then other else one)) × (other ≤ (if b then other else one))
    by true e = let less = leb-true one other e in (omega arith, omega arith)
    by false e = let less = leb-false one other e in (omega arith, omega arith)

greater-least : (one other top : ℕ) → one ≤ top → other ≤ top → greater one other ≤ top
greater-least one other top l r = by (nat_le one other)
  where
    by : (b : Bool) → (if b then other else one) ≤ top
    by true = r
    by false = l

-- the best of some texts, by a rank of each
module _ (rank_of : List ℕ → ℕ) where
  abbrev pub best : ℕ → List (List ℕ) → ℕ
  best start texts = fold (λ top text. greater top (rank_of text)) start texts

  first-most : (start : ℕ) (texts : List (List ℕ)) → start ≤ best start texts
  first-most start [] = omega arith
  first-most start (text ∷ texts) =
      let here = greater-most start (rank_of text) in
      let rest = first-most (greater start (rank_of text)) texts in
      let less = here.0 in
      omega arith

  -- none is above it
  each-most : (start : ℕ) (texts : List (List ℕ)) (text : List ℕ) → Contains texts text → rank_of text ≤ best start texts
  each-most start [] text c = absurd (omega (arith, c.1))
  each-most start (first ∷ texts) text (zero, within, is) =
      let here = (greater-most start (rank_of first)).1 in
      let rest = first-most (greater start (rank_of first)) texts in
      let own : rank_of first ≤ best start (first ∷ texts) = omega arith in
      subst (λ text. rank_of text ≤ best start (first ∷ texts)) is own
  each-most start (first ∷ texts) text (suc k, within, is) = each-most (greater start (rank_of first)) texts text (k, omega (arith, within), is)

  -- and it isn't above what none is above
  most-least : (start top : ℕ) (texts : List (List ℕ)) → start ≤ top → ((text : List ℕ) → Contains texts text → rank_of text ≤ top)
      → best start texts ≤ top
  most-least start top [] below all = below
  most-least start top (text ∷ texts) below all =
      most-least (greater start (rank_of text)) top texts
      (greater-least start (rank_of text) top below (all text (0, omega arith, refl)))
      (λ other c. all other (suc c.0, omega (arith, c.1), c.2))

  best-most : (texts others : List (List ℕ)) → ((text : List ℕ) → Contains texts text → Contains others text) → best 0 texts ≤ best 0 others
  best-most texts others there =
      most-least 0 (best 0 others) texts (omega arith) (λ text c. each-most 0 others text (there text c))

  best-same : (texts others : List (List ℕ)) → HaveSameTexts texts others → best 0 texts ≡ best 0 others
  best-same texts others (there, back) =
      let up = best-most texts others there in
      let down = best-most others texts back in
      omega arith

pub same-rank : (path : List ℕ) (patterns others : List (List ℕ)) → HaveSameTexts patterns others → best_rank path patterns ≡ best_rank path others
same-rank path = best-same (rank path)
