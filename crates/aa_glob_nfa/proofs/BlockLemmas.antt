-- Where the ways of blocks of states begin.
use Rattle.std.proofs.Common.{◌≡◌, ℕ, ◌+◌, ◌<◌, ◌≤◌, cond, List, length, get_or, sym, ap, subst, ◌⊎◌, inl, inr, arith}
use Rattle.std.proofs.lemmas.Bool.{cases_lt, lt-ltb, le-ltb}
use Rattle.std.proofs.lemmas.List.{get_or_past}
use Rattle.std.specs.List.{AllWithin}
use Rattle.std.specs.List.Sorted.{IsNonDecreasingBy}
use Rattle.std.specs.Prelude.{All}
use Rattle.aa_glob_nfa.specs.code.Blocks.{AreFirsts, block_of, place_or, unknown}
use Rattle.aa_glob_nfa.specs.Tables.{no_byte, order_of}
use Rattle.aa_glob_nfa.specs.declared.state.Way.{Way}
use Rattle.aa_glob_nfa.proofs.ListLemmas.{bounds_by}

-- ways in order are in the order of the states that they lead from, and of their blocks
pub states_in_order : (ways : List Way) → IsNonDecreasingBy order_of ways → All (λ w. w.by ≤ no_byte) ways → IsNonDecreasingBy (λ w. w.from) ways
states_in_order ways sorted small i j d up within =
    let order : order_of (get_or ways i d) ≤ order_of (get_or ways j d) = sorted i j d up within in
    let number : (get_or ways j d).by ≤ no_byte = small j d within in
    omega arith

pub blocks_in_order : (ways : List Way) → IsNonDecreasingBy order_of ways → All (λ w. w.by ≤ no_byte) ways → IsNonDecreasingBy (λ w. block_of w.from) ways
blocks_in_order ways sorted small i j d up within =
    let low : (get_or ways i d).from ≤ (get_or ways j d).from = states_in_order ways sorted small i j d up within in
    omega arith

-- a known place is one that stands in the table of places
pub place_cases : (places : List ℕ) (at other : ℕ)
    → ((at < length places) × (get_or places at unknown < unknown) × (place_or places at other ≡ get_or places at unknown)) ⊎ (place_or places at other ≡ other)
place_cases places at other =
    elim (cases_lt (get_or places at unknown) unknown) [
      | inl known ↦ elim (cases_lt at (length places)) [
        | inl there ↦ inl (there, known, ap (λ b. cond b (get_or places at unknown) other) (lt-ltb _ unknown known))
        | inr past ↦ let none : get_or places at unknown ≡ unknown = get_or_past places at unknown past in absurd (omega arith)
      ]
      | inr not_known ↦ inr (ap (λ b. cond b (get_or places at unknown) other) (le-ltb _ unknown not_known))
    ]

-- the place that is known for a block's beginning, or the table's
pub start_fits : (ways : List Way) (firsts : List ℕ) (block : ℕ) → AreFirsts ways firsts
    → (place_or firsts block 0 ≤ length ways) × AllWithin (λ w. block_of w.from < block) ways 0 (place_or firsts block 0)
start_fits ways firsts block known =
    elim (place_cases firsts block 0) [
      | inl there ↦
          let begins = known block unknown there.0 there.1 in
          rw there.2 (begins.within, begins.before)
      | inr none ↦ rw none (omega arith, λ k d low h. absurd (omega arith))
    ]

-- the place that is known for a block's end, or the table's
pub end_fits : (ways : List Way) (firsts : List ℕ) (block : ℕ) → AreFirsts ways firsts
    → (place_or firsts (block + 1) (length ways) ≤ length ways)
    × AllWithin (λ w. block + 1 ≤ block_of w.from) ways (place_or firsts (block + 1) (length ways)) (length ways)
end_fits ways firsts block known =
    elim (place_cases firsts (block + 1) (length ways)) [
      | inl there ↦
          let begins = known (block + 1) unknown there.0 there.1 in
          rw there.2 (begins.within, begins.behind)
      | inr none ↦ rw none (omega arith, λ k d low h. absurd (omega arith))
    ]

-- the part of the table between two places, of which the first is no later than a block's beginning, and the second no earlier than its end
pub record AroundBlock (ways : List Way) (block start end : ℕ) : Type 0 where
  pub up : start ≤ end
  pub start_within : start ≤ length ways
  pub within : end ≤ length ways
  pub before : AllWithin (λ w. block_of w.from < block) ways 0 start
  pub behind : AllWithin (λ w. block + 1 ≤ block_of w.from) ways end (length ways)

pub around_block : (ways : List Way) (firsts : List ℕ) (block start end : ℕ) → AreFirsts ways firsts → start ≡ place_or firsts block 0
    → end ≡ place_or firsts (block + 1) (length ways) → AroundBlock ways block start end
around_block ways firsts block start end known from to =
    let d : Way = record { from = 0; by = 0; to = 0 } in
    let low = start_fits ways firsts block known in
    let high = end_fits ways firsts block known in
    let low_within : start ≤ length ways = omega (arith, low.0) in
    let high_within : end ≤ length ways = omega (arith, high.0) in
    let before = subst (λ n. AllWithin (λ w. block_of w.from < block) ways 0 n) (sym from) low.1 in
    let behind = subst (λ n. AllWithin (λ w. block + 1 ≤ block_of w.from) ways n (length ways)) (sym to) high.1 in
    record {
      up = bounds_by (λ w. block_of w.from) ways d block start end low_within before behind;
      start_within = low_within;
      within = high_within;
      before = before;
      behind = behind;
    }
