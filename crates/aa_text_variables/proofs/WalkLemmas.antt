-- What a walk into depth keeps, and what it has found where it ends.
use Rattle.std.proofs.Common.{◌≡◌, ℕ, zero, suc, Bool, true, false, nat_eq, ◌||◌, List, [], ◌∷◌, ◌++◌, ◌+◌, ◌-◌, ◌*◌, ◌<◌, ◌≤◌, length, map, arith, length-append, refl, sym, ap, subst, append_assoc, ◌∙◌, ◌⊎◌, inl, inr}
use Rattle.std.specs.Prelude.{Option, None, Some, MatchOption, if◌then◌else◌}
use Rattle.std.specs.List.{list_any}
use Rattle.std.proofs.lemmas.Bool.{or_left, or_right}
use Rattle.std.proofs.lemmas.List.{append-nil, length-map, take-append-le}
use Rattle.std.proofs.lemmas.Map.Steps.{length-le_from_distinct_below}
use Rattle.std.proofs.Math.Nat.{suc-mul}
use Rattle.std.proofs.Math.Seq.{take-append_seam}
use Rattle.aa_text_expansion.specs.Parts.{parts}
use Rattle.aa_text_variables.proofs.ChainLemmas.{shorter_chain}
use Rattle.aa_text_variables.proofs.ListLemmas.{index-found, listed, slice_get-push}
use Rattle.aa_text_variables.proofs.ReachedLemmas.{distinct-none, indexes_of-below, indexes_within-below, parts-known, texts-known, with_index-distinct, with_index-from, with_index-keeps, with_index-puts, with_indexes-distinct, with_indexes-from, with_indexes-puts, words_behind-index}
use Rattle.aa_text_variables.proofs.TestLemmas.{any-left, any-right, any-split, any-weaker, or-split, same-from_test, same-test}
use Rattle.aa_text_variables.specs.Expansions.{has_chain, leads_to_cycle}
use Rattle.aa_text_variables.specs.Variables.{Variable}
use Rattle.aa_text_variables.specs.code.ExpansionOrder.{IsOrder, are_texts_known, is_text_known}
use Rattle.aa_text_expansion.specs.Numbers.{with_index, with_indexes}
use Rattle.aa_text_variables.specs.code.ReachedVariables.{indexes_in, indexes_within}
use Rattle.aa_text_variables.specs.code.VariableIndexes.{words_at}
use Rattle.aa_text_variables.specs.code.VariableWalks.{AllBelow, AreSeenTo, BeginsWith, IsBeginning, IsEndless, IsOrderOf, IsSettled, IsStack, IsWalk, IsWalked, Progress, SomeEndless, after_task, is_for, leaves, names_at}
use Rattle.aa_text_variables.specs.declared.variables.walk.Task.{Task}
use Rattle.aa_text_variables.specs.declared.variables.walk.Task.TheVariants.{Enter, Leave}

-- ---- the names of words

-- what is gathered of a list, as a slice
pub gathered-is : (none xs keys slice : List ℕ) → none ≡ [] → keys ≡ with_indexes none xs → slice ≡ keys → slice ≡ with_indexes [] xs
gathered-is none xs keys slice e k s = s ∙ k ∙ ap (λ l. with_indexes l xs) e

-- what is gathered of a list stands in it
gathered-from : (xs : List ℕ) (q : ℕ) → list_any (nat_eq q) (with_indexes [] xs) ≡ true → list_any (nat_eq q) xs ≡ true
gathered-from xs q h =
    let found = index-found (with_indexes [] xs) q h in
    elim (with_indexes-from [] xs found.0 q found.1) [ inl here ↦ absurd cc | inr new ↦ new.1 ]

module _ (variables : List Variable) where
  -- what words name are variables
  names-below : (index : ℕ) → AllBelow (length variables) (names_at variables index)
  names-below index q h = indexes_within-below variables (words_at variables index) q (gathered-from (indexes_within variables (words_at variables index)) q h)

  -- so they name no more than there are
  names-few : (index : ℕ) → length (names_at variables index) ≤ length variables
  names-few index =
      length-le_from_distinct_below (names_at variables index) (length variables)
      (with_indexes-distinct [] (indexes_within variables (words_at variables index)) distinct-none) (names-below index)

  -- a variable is ready for an order that has what its words name
  names-ready : (order : List ℕ) (index : ℕ) → ((q : ℕ) → list_any (nat_eq q) (names_at variables index) ≡ true → list_any (nat_eq q) order ≡ true)
      → are_texts_known variables order (words_at variables index) ≡ true
  names-ready order index has =
      texts-known variables order (words_at variables index) (λ q h. has q (with_indexes-puts [] (indexes_within variables (words_at variables index)) q h))

  -- ---- chains

  -- texts that name a variable are some
  chain-begins : (texts : List (List ℕ)) (q : ℕ) → list_any (nat_eq q) (indexes_within variables texts) ≡ true → list_any (has_chain variables zero) texts ≡ true
  chain-begins [] q h = absurd cc
  chain-begins (text ∷ texts) q h = refl

  -- a chain goes on from the words of a variable to texts that name it
  chain-goes_on : (size : ℕ) (texts : List (List ℕ)) (q : ℕ) → list_any (nat_eq q) (indexes_within variables texts) ≡ true
      → list_any (has_chain variables size) (words_at variables q) ≡ true → list_any (has_chain variables (suc size)) texts ≡ true
  chain-goes_on size [] q h k = absurd cc
  chain-goes_on size (text ∷ texts) q h k = elim (any-split (nat_eq q) (indexes_in variables text) (indexes_within variables texts) h) [
    | inl here ↦ or_left (has_chain variables (suc size) text) (list_any (has_chain variables (suc size)) texts) (words_behind-index variables (has_chain variables size) (parts text) q here k)
    | inr there ↦ or_right (has_chain variables (suc size) text) (list_any (has_chain variables (suc size)) texts) (chain-goes_on size texts q there k)
  ]

  -- and to the words of one that names it
  chain-at : (size index q : ℕ) → list_any (nat_eq q) (names_at variables index) ≡ true
      → list_any (has_chain variables size) (words_at variables q) ≡ true → list_any (has_chain variables (suc size)) (words_at variables index) ≡ true
  chain-at size index q h = chain-goes_on size (words_at variables index) q (gathered-from (indexes_within variables (words_at variables index)) q h)

  -- words with a chain have a shorter one
  chain-shorter : (size index : ℕ) → list_any (has_chain variables (suc size)) (words_at variables index) ≡ true → list_any (has_chain variables size) (words_at variables index) ≡ true
  chain-shorter size index =
      any-weaker (has_chain variables (suc size)) (has_chain variables size) (shorter_chain variables size (suc size) (omega arith)) (words_at variables index)

  -- what a text names are variables
  pub starts-below : (text : List ℕ) → AllBelow (length variables) (with_indexes [] (indexes_in variables text))
  starts-below text q h = indexes_of-below variables (parts text) q (gathered-from (indexes_in variables text) q h)

  module _ (text names : List ℕ) (same : names ≡ with_indexes [] (indexes_in variables text)) where
    -- a text is known by an order that has all that it names
    pub starts-known : (order : List ℕ) → ((q : ℕ) → list_any (nat_eq q) names ≡ true → list_any (nat_eq q) order ≡ true) → is_text_known variables order text ≡ true
    starts-known order has =
        parts-known variables order (parts text) (λ q h. has q (subst (λ xs. list_any (nat_eq q) xs ≡ true) (sym same) (with_indexes-puts [] (indexes_in variables text) q h)))

    -- one that names a variable with endless chains leads to a cycle
    pub endless-text : SomeEndless variables names → leads_to_cycle variables text ≡ true
    endless-text found =
        let among : list_any (nat_eq found.0) (with_indexes [] (indexes_in variables text)) ≡ true = rw same at found.1 in
        words_behind-index variables (has_chain variables (length variables)) (parts text) found.0 (gathered-from (indexes_in variables text) found.0 among) (found.2 (length variables))

  -- one variable alone
  pub endless-one : (index : ℕ) → SomeEndless variables (index ∷ []) → IsEndless variables index
  endless-one index found = elim (or-split (nat_eq found.0 index) false found.1) [
    | inl same ↦ subst (IsEndless variables) (same-from_test found.0 index same) found.2
    | inr none ↦ absurd (cc)
  ]

  -- ---- tasks

  module _ (is_task : ℕ → Task → Bool) (order after : List ℕ) (task : Task) (tasks : List Task)
      (has : (q : ℕ) → (list_any (nat_eq q) order || is_task q task) ≡ true → (list_any (nat_eq q) after || list_any (is_task q) tasks) ≡ true) where
    -- what is seen to still is once the last task was replaced by what it leads to
    seen-on : (before : List Task) (indexes : List ℕ) → AreSeenTo is_task order (before ++ task ∷ []) indexes → AreSeenTo is_task after (before ++ tasks) indexes
    seen-on before indexes seen q among = elim (or-split (list_any (nat_eq q) order) (list_any (is_task q) (before ++ task ∷ [])) (seen q among)) [
      | inl there ↦ by (has q (or_left (list_any (nat_eq q) order) (is_task q task) there))
      | inr some ↦ elim (any-split (is_task q) before (task ∷ []) some) [
        | inl early ↦ or_right (list_any (nat_eq q) after) (list_any (is_task q) (before ++ tasks)) (any-left (is_task q) before tasks early)
        | inr last ↦ elim (or-split (is_task q task) false last) [
          | inl this ↦ by (has q (or_right (list_any (nat_eq q) order) (is_task q task) this))
          | inr none ↦ absurd (cc)
        ]
      ]
    ]
      where
        by : (list_any (nat_eq q) after || list_any (is_task q) tasks) ≡ true → (list_any (nat_eq q) after || list_any (is_task q) (before ++ tasks)) ≡ true
        by h = elim (or-split (list_any (nat_eq q) after) (list_any (is_task q) tasks) h) [
          | inl there ↦ or_left (list_any (nat_eq q) after) (list_any (is_task q) (before ++ tasks)) there
          | inr some ↦ or_right (list_any (nat_eq q) after) (list_any (is_task q) (before ++ tasks)) (any-right (is_task q) before tasks some)
        ]

  module _ (order after : List ℕ) (task : Task) (tasks : List Task)
      (has : (q : ℕ) → (list_any (nat_eq q) order || is_for q task) ≡ true → (list_any (nat_eq q) after || list_any (is_for q) tasks) ≡ true)
      (here : (names : List ℕ) → IsStack variables order names (task ∷ []) → IsStack variables after names tasks) where
    -- so a stack stays one
    stack-on : (names : List ℕ) (before : List Task) → IsStack variables order names (before ++ task ∷ []) → IsStack variables after names (before ++ tasks)
    stack-on names [] stack = here names stack
    stack-on names (Enter q ∷ before) stack = (stack.0, stack-on names before stack.1)
    stack-on names (Leave q ∷ before) stack =
        (stack.0, seen-on is_for order after task tasks has before (names_at variables q) stack.1, stack-on (names_at variables q) before stack.2)

  -- the index of the last task is that of a variable
  last-below : (order names : List ℕ) (tasks : List Task) (task : Task) (q : ℕ) → AllBelow (length variables) names → is_for q task ≡ true
      → IsStack variables order names (tasks ++ task ∷ []) → q < length variables
  last-below order names [] (Enter index) q below is stack = below q (subst (λ n. list_any (nat_eq n) names ≡ true) (sym (same-from_test q index is)) stack.0)
  last-below order names [] (Leave index) q below is stack = below q (subst (λ n. list_any (nat_eq n) names ≡ true) (sym (same-from_test q index is)) stack.0)
  last-below order names (Enter other ∷ tasks) task q below is stack = last-below order names tasks task q below is stack.1
  last-below order names (Leave other ∷ tasks) task q below is stack = last-below order (names_at variables other) tasks task q (names-below other) is stack.2

  -- where the last task is to leave a variable, all that its words name is in the order
  last-ready : (order names : List ℕ) (tasks : List Task) (index : ℕ) → IsStack variables order names (tasks ++ Leave index ∷ [])
      → (q : ℕ) → list_any (nat_eq q) (names_at variables index) ≡ true → list_any (nat_eq q) order ≡ true
  last-ready order names [] index stack q among = elim (or-split (list_any (nat_eq q) order) false (stack.1 q among)) [ inl there ↦ there | inr none ↦ absurd (cc) ]
  last-ready order names (Enter other ∷ tasks) index stack q among = last-ready order names tasks index stack.1 q among
  last-ready order names (Leave other ∷ tasks) index stack q among = last-ready order (names_at variables other) tasks index stack.2 q among

  -- tasks to enter names are a stack for them
  names-stack : (order names indexes : List ℕ) → ((q : ℕ) → list_any (nat_eq q) indexes ≡ true → list_any (nat_eq q) names ≡ true) → IsStack variables order names (map Enter indexes)
  names-stack order names [] has = tt
  names-stack order names (index ∷ indexes) has = (
    has index (or_left (nat_eq index index) (list_any (nat_eq index) indexes) (same-test index)),
    names-stack order names indexes (λ q h. has q (or_right (nat_eq q index) (list_any (nat_eq q) indexes) h)),
  )

  -- ---- a cycle

  module _ (order : List ℕ) (last : ℕ) where
    -- some name is named where there is a task
    stack-named : (names : List ℕ) (tasks : List Task) → IsStack variables order names (tasks ++ Enter last ∷ []) → (q : ℕ) × (list_any (nat_eq q) names ≡ true)
    stack-named names [] stack = (last, stack.0)
    stack-named names (Enter index ∷ tasks) stack = (index, stack.0)
    stack-named names (Leave index ∷ tasks) stack = (index, stack.0)

    -- a chain behind the words of the last task's variable is one behind those of a name
    stack-chain : (size : ℕ) → list_any (has_chain variables size) (words_at variables last) ≡ true → (names : List ℕ) (tasks : List Task) → IsStack variables order names (tasks ++ Enter last ∷ [])
        → (q : ℕ) × (list_any (nat_eq q) names ≡ true) × (list_any (has_chain variables size) (words_at variables q) ≡ true)
    stack-chain size chain names [] stack = (last, stack.0, chain)
    stack-chain size chain names (Enter index ∷ tasks) stack = stack-chain size chain names tasks stack.1
    stack-chain size chain names (Leave index ∷ tasks) stack =
        let found = stack-chain size chain (names_at variables index) tasks stack.2 in
        (index, stack.0, chain-shorter size index (chain-at size index found.0 found.1 found.2))

    -- so a variable to be left, above which it is to be entered, has endless chains
    stack-round : (tasks : List Task) → IsStack variables order (names_at variables last) (tasks ++ Enter last ∷ []) → IsEndless variables last
    stack-round tasks stack zero =
        let found = stack-named (names_at variables last) tasks stack in
        chain-begins (words_at variables last) found.0 (gathered-from (indexes_within variables (words_at variables last)) found.0 found.1)
    stack-round tasks stack (suc size) =
        let found = stack-chain size (stack-round tasks stack size) (names_at variables last) tasks stack in
        chain-at size last found.0 found.1 found.2

    -- and so has a name
    stack-endless : (names : List ℕ) (tasks : List Task) → IsStack variables order names (tasks ++ Enter last ∷ []) → list_any (leaves last) tasks ≡ true → SomeEndless variables names
    stack-endless names [] stack some = absurd (cc)
    stack-endless names (Enter index ∷ tasks) stack some = stack-endless names tasks stack.1 some
    stack-endless names (Leave index ∷ tasks) stack some = by (or-split (nat_eq last index) (list_any (leaves last) tasks) some) (stack-endless (names_at variables index) tasks stack.2)
      where
        by : (nat_eq last index ≡ true) ⊎ (list_any (leaves last) tasks ≡ true) → (list_any (leaves last) tasks ≡ true → SomeEndless variables (names_at variables index))
            → SomeEndless variables names
        by (inl same) rest =
            let equal : index ≡ last = sym (same-from_test last index same) in
            let round : IsStack variables order (names_at variables last) (tasks ++ Enter last ∷ []) = subst (λ n. IsStack variables order (names_at variables n) (tasks ++ Enter last ∷ [])) equal stack.2 in
            (last, subst (λ n. list_any (nat_eq n) names ≡ true) equal stack.0, stack-round tasks round)
        by (inr there) rest =
            let found = rest there in
            (index, stack.0, λ size. chain-shorter size index (chain-at size index found.0 found.1 (found.2 size)))

  -- ---- an order

  -- an order goes on with a variable that is ready
  order-more : (order : List ℕ) (index : ℕ) → IsOrder variables order → are_texts_known variables order (words_at variables index) ≡ true → IsOrder variables (with_index order index)
  order-more order index ordered ready = by (list_any (nat_eq index) order) refl
    where
      by : (b : Bool) → list_any (nat_eq index) order ≡ b → IsOrder variables (with_index order index)
      by true b = rw b ordered
      by false b = rw b (λ at found h. elim (slice_get-push order index at found h) [
        | inl there ↦ let within : at ≤ length order = omega (arith, there.0) in rw (take-append-le at order (index ∷ []) within) (ordered at found there.1)
        | inr last ↦ rw (last.0, take-append_seam order (index ∷ []), ← last.1) ready
      ])

  -- numbers below a bound with one more
  below-more : (bound : ℕ) (known : List ℕ) (index : ℕ) → AllBelow bound known → index < bound → AllBelow bound (with_index known index)
  below-more bound known index below within q h =
      let found = index-found (with_index known index) q h in
      elim (with_index-from known index found.0 q found.1) [
        | inl here ↦ below q (listed known found.0 q here)
        | inr new ↦ subst (λ n. n < bound) (sym new.1) within
      ]

  -- there are no more in an order than variables
  pub settled-few : (order : List ℕ) → IsSettled variables order → length order ≤ length variables
  settled-few order settled = length-le_from_distinct_below order (length variables) settled.distinct settled.below

  -- nothing is an order
  pub settled-nothing : (order : List ℕ) → order ≡ [] → IsSettled variables order
  settled-nothing order empty =
      subst (IsSettled variables) (sym empty) record { ordered = λ at index h. absurd (cc); below = λ q h. absurd (cc); distinct = distinct-none }

  -- tasks to enter some variables are for those
  enters-for : (indexes : List ℕ) (q : ℕ) → list_any (is_for q) (map Enter indexes) ≡ list_any (nat_eq q) indexes
  enters-for [] q = refl
  enters-for (index ∷ indexes) q = ap (λ b. nat_eq q index || b) (enters-for indexes q)

-- what a list begins with, it begins with when one more is put behind
begins-more : (before order : List ℕ) (index : ℕ) → BeginsWith before order → BeginsWith before (with_index order index)
begins-more before order index begins = by (list_any (nat_eq index) order) refl
  where
    by : (b : Bool) → list_any (nat_eq index) order ≡ b → BeginsWith before (with_index order index)
    by true e = (begins.0, rw (with_index, e) begins.1)
    by false e = (begins.0 ++ index ∷ [], rw (with_index, e) (ap (λ front. front ++ index ∷ []) begins.1 ∙ append_assoc before begins.0 (index ∷ [])))

-- how far a walk is
abbrev pub state : List ℕ → List Task → List ℕ → Progress
state entered tasks order = record { entered = entered; tasks = tasks; order = order }

-- No walk has more steps left: each variable that wasn't entered brings a task to leave it, and one for each variable at most that its words
-- name.
abbrev pub steps_left : List Variable → Progress → ℕ
steps_left variables walk = (length variables - length walk.entered) * (length variables + 2) + length walk.tasks

-- one task less
one-less : (others few : ℕ) → others + few < others + (few + 1)
one-less others few = omega arith

-- one variable less to be entered
entered-less : (count entered few names : ℕ) → entered + 1 ≤ count → names ≤ count
    → (count - (entered + 1)) * (count + 2) + (few + suc names) < (count - entered) * (count + 2) + (few + 1)
entered-less count entered few names within short = by (count - (entered + 1)) refl
  where
    sum : (others : ℕ) → others + (few + suc names) < (others + (count + 2)) + (few + 1)
    sum others = omega arith

    by : (left : ℕ) → count - (entered + 1) ≡ left → (count - (entered + 1)) * (count + 2) + (few + suc names) < (count - entered) * (count + 2) + (few + 1)
    by left e =
        let more : count - entered ≡ suc left = omega arith in
        rw (more, e, suc-mul left (count + 2)) (sum (left * (count + 2)))

module _ (variables : List Variable) (starts before : List ℕ) (below : AllBelow (length variables) starts) where
  -- a walk begins
  pub walk-begins : (entered order : List ℕ) (none tasks : List Task) → IsBeginning variables (state entered none order) → tasks ≡ none ++ map Enter starts → before ≡ order
      → IsWalk variables starts before (state entered tasks order)
  walk-begins entered order none tasks begins pushed same =
      rw (begins.nothing, pushed, begins.idle, same) record {
        settled = begins.settled;
        begins = ([], sym (append-nil order));
        keeps = λ q h. h;
        seen = λ q among. or_right (list_any (nat_eq q) order) (list_any (is_for q) (map Enter starts)) (enters-for variables starts q ∙ among);
        stack = names-stack variables order starts starts (λ q h. h);
        entered = λ q h. absurd (cc);
        below = λ q h. absurd (cc);
        distinct = distinct-none;
      }

  module _ (entered order : List ℕ) (tasks : List Task) (index : ℕ) where
    -- the tasks that entering it leaves
    abbrev more : List Task
    more = Leave index ∷ map Enter (names_at variables index)

    -- what is in the order is passed over
    walk-known : IsWalk variables starts before (state entered (tasks ++ Enter index ∷ []) order) → list_any (nat_eq index) order ≡ true → IsWalk variables starts before (state entered tasks order)
    walk-known walk known = subst (λ ts. IsWalk variables starts before (state entered ts order)) (append-nil tasks) record {
      settled = walk.settled;
      begins = walk.begins;
      keeps = walk.keeps;
      seen = seen-on variables is_for order order (Enter index) [] has tasks starts walk.seen;
      stack = stack-on variables order order (Enter index) [] has (λ names h. tt) starts tasks walk.stack;
      entered = seen-on variables leaves order order (Enter index) [] (λ q h. h) tasks entered walk.entered;
      below = walk.below;
      distinct = walk.distinct;
    }
      where
        has : (q : ℕ) → (list_any (nat_eq q) order || nat_eq q index) ≡ true → (list_any (nat_eq q) order || false) ≡ true
        has q h = elim (or-split (list_any (nat_eq q) order) (nat_eq q index) h) [
          | inl there ↦ or_left (list_any (nat_eq q) order) false there
          | inr same ↦ or_left (list_any (nat_eq q) order) false (subst (λ n. list_any (nat_eq n) order ≡ true) (sym (same-from_test q index same)) known)
        ]

    -- what wasn't entered is
    walk-in : IsWalk variables starts before (state entered (tasks ++ Enter index ∷ []) order)
        → IsWalk variables starts before (state (with_index entered index) (tasks ++ Leave index ∷ map Enter (names_at variables index)) order)
    walk-in walk = record {
      settled = walk.settled;
      begins = walk.begins;
      keeps = walk.keeps;
      seen = seen-on variables is_for order order (Enter index) more has tasks starts walk.seen;
      stack = stack-on variables order order (Enter index) more has here starts tasks walk.stack;
      entered = pending;
      below = below-more variables (length variables) entered index walk.below (last-below variables order starts tasks (Enter index) index below (same-test index) walk.stack);
      distinct = with_index-distinct entered index walk.distinct;
    }
      where
        has : (q : ℕ) → (list_any (nat_eq q) order || nat_eq q index) ≡ true → (list_any (nat_eq q) order || list_any (is_for q) more) ≡ true
        has q h = elim (or-split (list_any (nat_eq q) order) (nat_eq q index) h) [
          | inl there ↦ or_left (list_any (nat_eq q) order) (list_any (is_for q) more) there
          | inr same ↦ or_right (list_any (nat_eq q) order) (list_any (is_for q) more) (or_left (nat_eq q index) (list_any (is_for q) (map Enter (names_at variables index))) same)
        ]

        here : (names : List ℕ) → IsStack variables order names (Enter index ∷ []) → IsStack variables order names more
        here names stack = (
          stack.0,
          (λ q among. or_right (list_any (nat_eq q) order) (list_any (is_for q) (map Enter (names_at variables index))) (enters-for variables (names_at variables index) q ∙ among)),
          names-stack variables order (names_at variables index) (names_at variables index) (λ q h. h),
        )

        left : (q : ℕ) → (list_any (nat_eq q) order || false) ≡ true → (list_any (nat_eq q) order || list_any (leaves q) more) ≡ true
        left q h = elim (or-split (list_any (nat_eq q) order) false h) [ inl there ↦ or_left (list_any (nat_eq q) order) (list_any (leaves q) more) there | inr none ↦ absurd (cc) ]

        pending : AreSeenTo leaves order (tasks ++ more) (with_index entered index)
        pending q h =
            let found = index-found (with_index entered index) q h in
            elim (with_index-from entered index found.0 q found.1) [
              | inl here ↦ seen-on variables leaves order order (Enter index) more left tasks entered walk.entered q (listed entered found.0 q here)
              | inr new ↦ or_right (list_any (nat_eq q) order) (list_any (leaves q) (tasks ++ more)) (any-right (leaves q) tasks more
                  (or_left (nat_eq q index) (list_any (leaves q) (map Enter (names_at variables index))) (subst (λ n. nat_eq q n ≡ true) new.1 (same-test q))))
            ]

    -- what is left goes behind the order
    walk-out : IsWalk variables starts before (state entered (tasks ++ Leave index ∷ []) order) → IsWalk variables starts before (state entered tasks (with_index order index))
    walk-out walk = subst (λ ts. IsWalk variables starts before (state entered ts (with_index order index))) (append-nil tasks) record {
      settled = record {
        ordered = order-more variables order index walk.settled.ordered (names-ready variables order index (last-ready variables order starts tasks index walk.stack));
        below = below-more variables (length variables) order index walk.settled.below (last-below variables order starts tasks (Leave index) index below (same-test index) walk.stack);
        distinct = with_index-distinct order index walk.settled.distinct;
      };
      begins = begins-more before order index walk.begins;
      keeps = λ q h. with_index-keeps order index q (walk.keeps q h);
      seen = seen-on variables is_for order (with_index order index) (Leave index) [] has tasks starts walk.seen;
      stack = stack-on variables order (with_index order index) (Leave index) [] has (λ names h. tt) starts tasks walk.stack;
      entered = seen-on variables leaves order (with_index order index) (Leave index) [] has tasks entered walk.entered;
      below = walk.below;
      distinct = walk.distinct;
    }
      where
        has : (q : ℕ) → (list_any (nat_eq q) order || nat_eq q index) ≡ true → (list_any (nat_eq q) (with_index order index) || false) ≡ true
        has q h = elim (or-split (list_any (nat_eq q) order) (nat_eq q index) h) [
          | inl there ↦ or_left (list_any (nat_eq q) (with_index order index)) false (with_index-keeps order index q there)
          | inr same ↦ or_left (list_any (nat_eq q) (with_index order index)) false (subst (λ n. list_any (nat_eq n) (with_index order index) ≡ true) (sym (same-from_test q index same)) (with_index-puts order index))
        ]

    -- what was entered, and is neither in the order nor passed over, leads to itself
    walk-endless : IsWalk variables starts before (state entered (tasks ++ Enter index ∷ []) order) → list_any (nat_eq index) order ≡ false → list_any (nat_eq index) entered ≡ true
        → SomeEndless variables starts
    walk-endless walk outside among = stack-endless variables order index starts tasks walk.stack (by (or-split (list_any (nat_eq index) order) (list_any (leaves index) (tasks ++ Enter index ∷ [])) (walk.entered index among)))
      where
        by : (list_any (nat_eq index) order ≡ true) ⊎ (list_any (leaves index) (tasks ++ Enter index ∷ []) ≡ true) → list_any (leaves index) tasks ≡ true
        by (inl there) = absurd (cc)
        by (inr some) = elim (any-split (leaves index) tasks (Enter index ∷ []) some) [ inl early ↦ early | inr last ↦ absurd (cc) ]

  -- what a task makes of a walk, in fewer steps than were left
  abbrev pub GoesOn : Progress → Option Progress → Type 0
  GoesOn walk next = MatchOption next (SomeEndless variables starts) (λ after. IsWalk variables starts before after × (steps_left variables after < steps_left variables walk))

  -- each task keeps what is known of a walk, or finds a cycle
  pub walk-goes_on : (task : Task) (entered order : List ℕ) (tasks : List Task) → IsWalk variables starts before (state entered (tasks ++ task ∷ []) order)
      → GoesOn (state entered (tasks ++ task ∷ []) order) (after_task variables task (state entered tasks order))
  walk-goes_on (Leave index) entered order tasks walk =
      (walk-out entered order tasks index walk, rw (length-append tasks (Leave index ∷ [])) (one-less ((length variables - length entered) * (length variables + 2)) (length tasks)))
  walk-goes_on (Enter index) entered order tasks walk = by (list_any (nat_eq index) order) refl (list_any (nat_eq index) entered) refl
    where
      by : (b : Bool) → list_any (nat_eq index) order ≡ b → (c : Bool) → list_any (nat_eq index) entered ≡ c
          → GoesOn (state entered (tasks ++ Enter index ∷ []) order) (after_task variables (Enter index) (state entered tasks order))
      by true b c e =
          rw b (
            walk-known entered order tasks index walk b,
            rw (length-append tasks (Enter index ∷ [])) (one-less ((length variables - length entered) * (length variables + 2)) (length tasks)),
          )
      by false b true e = rw (b, e) (walk-endless entered order tasks index walk b e)
      by false b false e =
          let inside = walk-in entered order tasks index walk in
          let few : length (with_index entered index) ≤ length variables = length-le_from_distinct_below (with_index entered index) (length variables) inside.distinct inside.below in
          let long : length (with_index entered index) ≡ length entered + 1 = rw e (length-append entered (index ∷ [])) in
          let short : length (map Enter (names_at variables index)) ≤ length variables = rw (length-map (names_at variables index) Enter) (names-few variables index) in
          rw (b, e) (
            rw e at inside,
            rw (length-append entered (index ∷ []), length-append tasks (Enter index ∷ []), length-append tasks (Leave index ∷ map Enter (names_at variables index)))
                (entered-less (length variables) (length entered) (length tasks) (length (map Enter (names_at variables index))) (rw long at few) short),
          )

  -- the same, by whether the task could be done
  pub walk-on : (task : Task) (entered order : List ℕ) (tasks all : List Task) → all ≡ tasks ++ task ∷ [] → IsWalk variables starts before (state entered all order)
      → (fine : Bool) (next : Progress) → after_task variables task (state entered tasks order) ≡ (if fine then Some next else None)
      → (fine ≡ true → IsWalk variables starts before next × (steps_left variables next < steps_left variables (state entered all order))) × (fine ≡ false → SomeEndless variables starts)
  walk-on task entered order tasks all same walk fine next after = by fine after
    where
      goes : GoesOn (state entered all order) (after_task variables task (state entered tasks order))
      goes = rw same (walk-goes_on task entered order tasks (rw same at walk))

      by : (fine : Bool) → after_task variables task (state entered tasks order) ≡ (if fine then Some next else None)
          → (fine ≡ true → IsWalk variables starts before next × (steps_left variables next < steps_left variables (state entered all order))) × (fine ≡ false → SomeEndless variables starts)
      by true after = (λ h. subst (GoesOn (state entered all order)) after goes, λ h. absurd (cc))
      by false after = (λ h. absurd (cc), λ h. subst (GoesOn (state entered all order)) after goes)

-- an order that has all names of a text
pub text-walked : (variables : List Variable) (text names before order : List ℕ) → names ≡ with_indexes [] (indexes_in variables text)
    → IsWalked variables names before order → IsOrderOf variables text before order
text-walked variables text names before order same walked =
    record { settled = walked.settled; begins = walked.begins; named = starts-known variables text names same order walked.has }
