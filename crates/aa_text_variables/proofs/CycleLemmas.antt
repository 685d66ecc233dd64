-- What a settled order says of the refusals of texts and of the variables that lead to themselves.
use Rattle.std.proofs.Common.{◌≡◌, ℕ, zero, suc, ◌<◌, ◌≤◌, Bool, true, false, List, [], ◌∷◌, length, arith, refl, ap, ◌∙◌}
use Rattle.std.specs.Prelude.{None, Some, nat_eq, nat_lt, option_map, slice_get, position}
use Rattle.std.specs.List.{list_any, position_or_len}
use Rattle.std.proofs.lemmas.Bool.Decides.{nat_tests}
use Rattle.std.proofs.lemmas.Option.{slice_get_within}
use Rattle.aa_text_variables.proofs.ChainLemmas.{no_cycle, no_cycle-at}
use Rattle.aa_text_variables.proofs.VariableLemmas.{shifted}
use Rattle.aa_text_variables.specs.code.ExpansionOrder.{IsOrder, is_text_known}
use Rattle.aa_text_variables.specs.Expansions.{expansion_refusal, is_cyclic, leads_to_cycle, leads_to_undefined}
use Rattle.aa_text_variables.specs.code.VariableWalks.{IsEndless}
use Rattle.aa_text_variables.specs.code.VariableIndexes.{words_at}
use Rattle.aa_text_variables.specs.Variables.{Variable}
use Rattle.aa_text_files.specs.declared.text_error.TextRefusal.TheVariants.{Cycle}

module _ (variables : List Variable) (text : List ℕ) where
  -- a text that is known by an order has expansions
  pub refusal-none : (order : List ℕ) → IsOrder variables order → length order ≤ length variables → is_text_known variables order text ≡ true
      → leads_to_undefined variables text ≡ false → expansion_refusal variables text ≡ None
  refusal-none order ordered few known defined =
      let none : leads_to_cycle variables text ≡ false = no_cycle variables order ordered few text known in
      rw (defined, none, expansion_refusal) refl

  -- one that leads to no undefined name, but to a variable that leads to itself, is refused for that
  pub refusal-cycle : leads_to_cycle variables text ≡ true → leads_to_undefined variables text ≡ false → expansion_refusal variables text ≡ Some Cycle
  refusal-cycle chain defined = rw (defined, chain, expansion_refusal) refl

module _ {X : Type 0} (p : X → Bool) where
  -- the first element that passes a test
  position-first : (xs : List X) (at : ℕ) (x : X) → ((k : ℕ) (y : X) → k < at → slice_get xs k ≡ Some y → p y ≡ false)
      → slice_get xs at ≡ Some x → p x ≡ true → position p xs ≡ Some at
  position-first [] at x before h passes = absurd (cc)
  position-first (y ∷ ys) zero x before h passes =
      let same : y ≡ x = cc in
      let here : p y ≡ true = rw same passes in
      let first : nat_lt 0 (suc (length ys)) ≡ true = grind (arith, nat_tests) in
      rw (here, first) refl
  position-first (y ∷ ys) (suc at) x before h passes =
      let here : p y ≡ false = before 0 y (omega arith) refl in
      rw here (shifted (position_or_len p ys) (length ys) ∙ ap (option_map suc) (position-first ys at x (λ k z b s. before (suc k) z (omega arith) s) h passes))

  -- no element passes it
  position-nowhere : (xs : List X) → ((k : ℕ) (y : X) → slice_get xs k ≡ Some y → p y ≡ false) → position p xs ≡ None
  position-nowhere [] none = refl
  position-nowhere (y ∷ ys) none =
      let here : p y ≡ false = none 0 y refl in
      rw here (shifted (position_or_len p ys) (length ys) ∙ ap (option_map suc) (position-nowhere ys (λ k z s. none (suc k) z s)))

-- where a list has elements
element_within : {X : Type 0} (xs : List X) (at : ℕ) → at < length xs → (x : X) × (slice_get xs at ≡ Some x)
element_within [] at h = absurd (omega arith)
element_within (x ∷ xs) zero h = (x, refl)
element_within (x ∷ xs) (suc at) h = element_within xs at (omega arith)

module _ (variables : List Variable) (order : List ℕ) (ordered : IsOrder variables order) (few : length order ≤ length variables) where
  -- a variable whose index is in an order doesn't lead to itself
  acyclic-at : (at : ℕ) (variable : Variable) → list_any (nat_eq at) order ≡ true → slice_get variables at ≡ Some variable → is_cyclic variables variable ≡ false
  acyclic-at at variable among h =
      let none = no_cycle-at variables order ordered few at among in
      rw (h, words_at) at none

  -- where all indexes are in an order, none does
  pub cycle-nowhere : ((q : ℕ) → q < length variables → list_any (nat_eq q) order ≡ true) → position (is_cyclic variables) variables ≡ None
  cycle-nowhere has = position-nowhere (is_cyclic variables) variables (λ k v h. acyclic-at k v (has k (slice_get_within variables k v h)) h)

  -- the first that does is one with endless chains, where all indexes before it are in the order
  pub cycle-first : (index : ℕ) → index < length variables → ((q : ℕ) → q < index → list_any (nat_eq q) order ≡ true) → IsEndless variables index
      → position (is_cyclic variables) variables ≡ Some index
  cycle-first index below before endless =
      let found = element_within variables index below in
      let cyclic : is_cyclic variables found.0 ≡ true = rw (found.1, words_at) at (endless (length variables)) in
      position-first (is_cyclic variables) variables index found.0 (λ k v b h. acyclic-at k v (before k b) h) found.1 cyclic
