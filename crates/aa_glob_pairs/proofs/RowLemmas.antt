-- Rows of which the first ones stand before others.
use Rattle.std.proofs.Common.{◌≡◌, ℕ, ◌+◌, ◌==◌, true, false, Bool, cond, List, [], ◌∷◌, refl, sym, ap, ◌∙◌, inl, inr}
use Rattle.std.proofs.lemmas.Bool.{eq-eqb, eqb-false, eqb-true}
use Rattle.std.specs.BTreeMap.{is_at}
use Rattle.std.specs.Cmp.{unsigned_tied}
use Rattle.std.specs.Map.{lookup}
use Rattle.std.specs.Ordering.{nat_cmp}
use Rattle.std.specs.Prelude.{if◌then◌else◌, Some, unwrap_or}
use Rattle.aa_glob_pairs.proofs.GainLemmas.{row_other, row_set, same_or_not}
use Rattle.aa_glob_pairs.specs.Waiting.{row_at, SetsRow}

abbrev Rows : Type 0
Rows = List (ℕ × List ℕ)

row_front : (k : ℕ) (own : List ℕ) (rows : Rows) (q : ℕ) → row_at ((k, own) ∷ rows) q ≡ (if q == k then own else row_at rows q)
row_front k own rows q = by (is_at (nat_cmp q) k) ∙ ap (λ b. if b then own else row_at rows q) (unsigned_tied q k)
  where
    by : (b : Bool) → unwrap_or (cond b (Some own) (lookup (is_at (nat_cmp q)) rows)) [] ≡ (if b then own else row_at rows q)
    by true = refl
    by false = refl

-- the row that stands first, and those behind it
pub row_here : (k : ℕ) (own : List ℕ) (rows : Rows) (q : ℕ) → q ≡ k → row_at ((k, own) ∷ rows) q ≡ own
row_here k own rows q same = row_front k own rows q ∙ ap (λ b. if b then own else row_at rows q) (eq-eqb q k same)

pub row_behind : (k : ℕ) (own : List ℕ) (rows : Rows) (q : ℕ) → (q ≡ k → ⊥) → row_at ((k, own) ∷ rows) q ≡ row_at rows q
row_behind k own rows q apart = row_front k own rows q ∙ by (q == k) refl
  where
    by : (b : Bool) → (q == k) ≡ b → (if b then own else row_at rows q) ≡ row_at rows q
    by true e = absurd (apart (eqb-true q k e))
    by false e = refl

-- a row that is set is that one, and the others stay
sets_by : (old new : Rows) (first : ℕ) (row : List ℕ) → row_at new first ≡ row → ((q : ℕ) → (q ≡ first → ⊥) → row_at new q ≡ row_at old q) → SetsRow old new first row
sets_by old new first row here others q = by (first == q) refl
  where
    by : (b : Bool) → (first == q) ≡ b → row_at new q ≡ (if b then row else row_at old q)
    by true e = ap (row_at new) (sym (eqb-true first q e)) ∙ here
    by false e = others q (λ same. eqb-false first q e (sym same))

-- the one that stands first
pub sets_front : (k : ℕ) (own new : List ℕ) (rows : Rows) (first : ℕ) → first ≡ k → SetsRow ((k, own) ∷ rows) ((k, new) ∷ rows) first new
sets_front k own new rows first same =
    sets_by ((k, own) ∷ rows) ((k, new) ∷ rows) first new (row_here k new rows first same)
    (λ q apart. row_behind k new rows q (λ is. apart (is ∙ sym same)) ∙ sym (row_behind k own rows q (λ is. apart (is ∙ sym same))))

-- one behind it
pub sets_behind : (k : ℕ) (own : List ℕ) (old new : Rows) (first : ℕ) (row : List ℕ) → (first ≡ k → ⊥) → SetsRow old new first row → SetsRow ((k, own) ∷ old) ((k, own) ∷ new) first row
sets_behind k own old new first row apart sets =
    sets_by ((k, own) ∷ old) ((k, own) ∷ new) first row (row_behind k own new first apart ∙ row_set old new first row sets)
    (λ q other. elim (same_or_not q k) [
      | inl same ↦ row_here k own new q same ∙ sym (row_here k own old q same)
      | inr not ↦ row_behind k own new q not ∙ row_other old new first q row sets other ∙ sym (row_behind k own old q not)
    ])

-- the two that stand first, and the others
pub sets_next : (k : ℕ) (own next new : List ℕ) (rows : Rows) (first : ℕ) → (first ≡ k → ⊥) → first ≡ k + 1 → SetsRow ((k, own) ∷ (k + 1, next) ∷ rows) ((k, own) ∷ (k + 1, new) ∷ rows) first new
sets_next k own next new rows first apart same =
    sets_behind k own ((k + 1, next) ∷ rows) ((k + 1, new) ∷ rows) first new apart (sets_front (k + 1) next new rows first same)

pub sets_others : (k : ℕ) (own next : List ℕ) (old new : Rows) (first : ℕ) (row : List ℕ) → (first ≡ k → ⊥) → (first ≡ k + 1 → ⊥) → SetsRow old new first row
    → SetsRow ((k, own) ∷ (k + 1, next) ∷ old) ((k, own) ∷ (k + 1, next) ∷ new) first row
sets_others k own next old new first row apart too sets =
    sets_behind k own ((k + 1, next) ∷ old) ((k + 1, next) ∷ new) first row apart (sets_behind (k + 1) next old new first row too sets)

pub row_next : (k : ℕ) (own next : List ℕ) (rows : Rows) (q : ℕ) → (q ≡ k → ⊥) → q ≡ k + 1 → row_at ((k, own) ∷ (k + 1, next) ∷ rows) q ≡ next
row_next k own next rows q apart same = row_behind k own ((k + 1, next) ∷ rows) q apart ∙ row_here (k + 1) next rows q same

pub row_others : (k : ℕ) (own next : List ℕ) (rows : Rows) (q : ℕ) → (q ≡ k → ⊥) → (q ≡ k + 1 → ⊥) → row_at ((k, own) ∷ (k + 1, next) ∷ rows) q ≡ row_at rows q
row_others k own next rows q apart too = row_behind k own ((k + 1, next) ∷ rows) q apart ∙ row_behind (k + 1) next rows q too
