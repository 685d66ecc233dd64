-- Lists that are written out.
use Rattle.std.proofs.Common.{◌≡◌, ℕ, zero, suc, ◌+◌, ◌<◌, ◌≤◌, List, [], ◌∷◌, ◌++◌, length, take, append-nil, append_assoc, arith, refl, sym, ap, subst, ◌∙◌}
use Rattle.std.specs.Prelude.{Some, slice_get}
use Rattle.std.proofs.lemmas.List.{length-take}
use Rattle.std.proofs.lemmas.Option.{slice_get_within}
use Rattle.aa_text_expansion.specs.code.Made.{Listed, grown, listed_at, with_ends}
use Rattle.aa_text_expansion.specs.code.Written.{AreEarlier, AreStacked, ahead, of_cell, outcome, outcomes, rest_at, rests, steps_ahead, the_end}
use Rattle.aa_text_expansion.specs.declared.writing.Begun.{Begun}
use Rattle.aa_text_expansion.specs.declared.writing.Cell.{Cell}
use Rattle.aa_text_expansion.proofs.GrownLemmas.{grown-append, grown-at, grown-first, grown-front, grown-length, grown-seam}

-- Texts that were begun need no fewer cells than those before them.
pub stacked-low : (low : ℕ) (waiting : List Begun) (top : ℕ) → AreStacked low waiting top → low ≤ top
stacked-low low [] top stacked = stacked
stacked-low low (begun ∷ more) top stacked =
    let behind = stacked-low begun.height more top stacked.2 in
    let first = stacked.0 in
    omega arith

-- more cells
pub stacked-higher : (low : ℕ) (waiting : List Begun) (height top : ℕ) → AreStacked low waiting height → height ≤ top → AreStacked low waiting top
stacked-higher low [] height top stacked up = omega arith
stacked-higher low (begun ∷ more) height top stacked up = (stacked.0, stacked.1, stacked-higher begun.height more height top stacked.2 up)

-- one more is begun
pub stacked-pushed : (low : ℕ) (waiting : List Begun) (height top : ℕ) (begun : Begun) → AreStacked low waiting height → height ≤ begun.height → begun.rest ≤ begun.height → begun.height ≤ top
    → AreStacked low (waiting ++ begun ∷ []) top
stacked-pushed low [] height top begun stacked up within most = (omega arith, within, most)
stacked-pushed low (first ∷ more) height top begun stacked up within most = (stacked.0, stacked.1, stacked-pushed first.height more height top begun stacked.2 up within most)

-- the last goes on
pub stacked-popped : (low : ℕ) (waiting : List Begun) (top : ℕ) (begun : Begun) → AreStacked low (waiting ++ begun ∷ []) top
    → AreStacked low waiting begun.height × (begun.rest ≤ begun.height) × (begun.height ≤ top)
stacked-popped low [] top begun stacked = stacked
stacked-popped low (first ∷ more) top begun stacked =
    let behind = stacked-popped first.height more top begun stacked.2 in
    ((stacked.0, stacked.1, behind.0), behind.1, behind.2)

-- what goes behind a cell is earlier
pub earlier-at : (number : ℕ) (cells : List Cell) (at : ℕ) (cell : Cell) → AreEarlier number cells → slice_get cells at ≡ Some cell → cell.rest ≤ number + at
earlier-at number [] at cell earlier there = absurd (cc)
earlier-at number (first ∷ cells) zero cell earlier there =
    let same : first ≡ cell = cc in
    let here : cell.rest ≤ number = subst (λ c. c.rest ≤ number) same earlier.0 in
    omega arith
earlier-at number (first ∷ cells) (suc at) cell earlier there = let behind = earlier-at (suc number) cells at cell earlier.1 there in omega arith

-- one more cell
pub earlier-pushed : (number : ℕ) (cells : List Cell) (cell : Cell) → AreEarlier number cells → cell.rest ≤ number + length cells → AreEarlier number (cells ++ cell ∷ [])
earlier-pushed number [] cell earlier within = (omega arith, tt)
earlier-pushed number (first ∷ cells) cell earlier within = (earlier.0, earlier-pushed (suc number) cells cell earlier.1 (omega arith))

-- the first cells
pub earlier-taken : (number : ℕ) (cells : List Cell) (size : ℕ) → AreEarlier number cells → AreEarlier number (take size cells)
earlier-taken number [] zero earlier = tt
earlier-taken number [] (suc size) earlier = tt
earlier-taken number (first ∷ cells) zero earlier = tt
earlier-taken number (first ∷ cells) (suc size) earlier = (earlier.0, earlier-taken (suc number) cells size earlier.1)

module _ (lists : List Listed) where
  -- what comes of those that wait, and of one more
  pub outcomes-pushed : (rests : List Listed) (waiting : List Begun) (begun : Begun) → outcomes lists rests (waiting ++ begun ∷ []) ≡ outcome lists rests begun ++ outcomes lists rests waiting
  outcomes-pushed rests [] begun = sym (append-nil (outcome lists rests begun))
  outcomes-pushed rests (first ∷ more) begun =
      rw (outcomes-pushed rests more begun) (append_assoc (outcome lists rests begun) (outcomes lists rests more) (outcome lists rests first))

  -- the steps
  pub steps-pushed : (rests : List Listed) (waiting : List Begun) (begun : Begun) → steps_ahead lists rests (waiting ++ begun ∷ []) ≡ (ahead lists rests begun).steps + steps_ahead lists rests waiting
  steps-pushed rests [] begun = omega arith
  steps-pushed rests (first ∷ more) begun = let behind = steps-pushed rests more begun in omega arith

  -- the cells that are needed are the same
  abbrev pub Agree : ℕ → List Listed → List Listed → Type 0
  Agree top rests others = (number : ℕ) → number ≤ top → rest_at others number ≡ rest_at rests number

  pub outcomes-agree : (low : ℕ) (waiting : List Begun) (top : ℕ) (rests others : List Listed) → AreStacked low waiting top → Agree top rests others → outcomes lists others waiting ≡ outcomes lists rests waiting
  outcomes-agree low [] top rests others stacked agree = refl
  outcomes-agree low (begun ∷ more) top rests others stacked agree =
      let up = stacked-low begun.height more top stacked.2 in
      let within = stacked.1 in
      rw (agree begun.rest (omega arith), outcomes-agree begun.height more top rests others stacked.2 agree) refl

  pub steps-agree : (low : ℕ) (waiting : List Begun) (top : ℕ) (rests others : List Listed) → AreStacked low waiting top → Agree top rests others → steps_ahead lists others waiting ≡ steps_ahead lists rests waiting
  steps-agree low [] top rests others stacked agree = refl
  steps-agree low (begun ∷ more) top rests others stacked agree =
      let up = stacked-low begun.height more top stacked.2 in
      let within = stacked.1 in
      rw (agree begun.rest (omega arith), steps-agree begun.height more top rests others stacked.2 agree) refl

  -- one rest more than cells
  pub rests-length : (cells : List Cell) → length (rests lists cells) ≡ 1 + length cells
  rests-length cells = grown-length (of_cell lists) (the_end ∷ []) cells

  -- one more cell leaves the rests before
  pub rests-pushed : (cells : List Cell) (cell : Cell) → Agree (length cells) (rests lists cells) (rests lists (cells ++ cell ∷ []))
  rests-pushed cells cell number within =
      let inside : number < length (rests lists cells) = rw (rests-length cells) (omega arith) in
      ap (λ all. rest_at all number) (grown-append (of_cell lists) (the_end ∷ []) cells (cell ∷ [])) ∙ grown-front (of_cell lists) (rests lists cells) (cell ∷ []) number the_end inside

  -- and stands for what it says
  pub rest-pushed : (cells : List Cell) (cell : Cell) → rest_at (rests lists (cells ++ cell ∷ [])) (1 + length cells) ≡ of_cell lists (rests lists cells) cell
  rest-pushed cells cell =
      ap (λ all. rest_at all (1 + length cells)) (grown-append (of_cell lists) (the_end ∷ []) cells (cell ∷ []))
      ∙ ap (rest_at (grown (of_cell lists) (rests lists cells) (cell ∷ []))) (sym (rests-length cells)) ∙ grown-seam (of_cell lists) (rests lists cells) cell [] the_end

  -- fewer cells leave the rests before
  pub rests-taken : (cells : List Cell) (size : ℕ) → size ≤ length cells → Agree size (rests lists cells) (rests lists (take size cells))
  rests-taken cells size few number within =
      let inside : number < length (rests lists (take size cells)) = rw (rests-length (take size cells), length-take size cells) (omega arith) in
      sym (grown-first (of_cell lists) (the_end ∷ []) cells size number the_end inside)

  -- what a cell stands for
  pub rest-cell : (cells : List Cell) (at : ℕ) (cell : Cell) → AreEarlier 0 cells → slice_get cells at ≡ Some cell → rest_at (rests lists cells) (1 + at) ≡ of_cell lists (rests lists cells) cell
  rest-cell cells at cell earlier there =
      let early : cell.rest ≤ at = let h = earlier-at 0 cells at cell earlier there in omega arith in
      let within : at < length cells = slice_get_within cells at cell there in
      grown-at (of_cell lists) (the_end ∷ []) cells at cell the_end there
      ∙ ap (with_ends (listed_at lists cell.list)) (rests-taken cells at (omega arith) cell.rest early)
