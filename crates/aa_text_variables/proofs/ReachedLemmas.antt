-- What the gathered indexes are, and that they are those of all variables that a text leads to.
use Rattle.std.proofs.Common.{append_assoc, ◌≡◌, ℕ, Bool, true, false, nat_eq, List, [], ◌∷◌, ◌++◌, ◌+◌, ◌-◌, ◌<◌, ◌≤◌, zero, suc, length, slice_get, arith, length-append, refl, sym, ap, subst, ◌∙◌, ◌⊎◌, inl, inr}
use Rattle.std.specs.Prelude.{Option, None, Some}
use Rattle.std.specs.List.{list_all, list_any, IsDistinct}
use Rattle.std.specs.Cmp.Derive.{both_true}
use Rattle.std.proofs.lemmas.Bool.{and_parts, cases_eq, or_from, or_left, or_parts, or_right}
use Rattle.std.proofs.lemmas.Map.Keys.{IsDistinct-push}
use Rattle.std.proofs.lemmas.Map.Steps.{length-le_from_distinct_below}
use Rattle.std.proofs.lemmas.Option.{slice_get_within}
use Rattle.std.proofs.lemmas.Cmp.{nat_eq_equiv}
use Rattle.aa_text_expansion.specs.Parts.{Part, Byte, Name, Unclosed, parts}
use Rattle.aa_text_variables.specs.Variables.{Variable, names_undefined}
use Rattle.aa_text_variables.specs.Expansions.{leads_to_undefined, leads_to_undefined_within, words_behind, words_behind_parts, words_named}
use Rattle.aa_text_variables.specs.code.ExpansionOrder.{are_texts_known, is_part_known, is_text_known}
use Rattle.aa_text_expansion.specs.Numbers.{numbers_of, with_index, with_indexes}
use Rattle.aa_text_variables.specs.code.ReachedVariables.{indexes_in, indexes_of, indexes_within, IsReachedSoFar}
use Rattle.aa_text_variables.specs.code.VariableIndexes.{index_of, words_at}
use Rattle.aa_text_variables.proofs.ChainLemmas.{no_word_behind}
use Rattle.aa_text_variables.proofs.ListLemmas.{listed, past-none, index-found, slice_get-push}
use Rattle.aa_text_variables.proofs.IndexLemmas.{index_of-within, words_named-from_none, words_named-from_some}
use Rattle.aa_text_variables.proofs.TestLemmas.{any-left, any-right, any-split, any-weaker, or-split, same-from_test, same-test}

-- indexes with those of two lists
pub with_indexes-append : (known xs ys : List ℕ) → with_indexes known (xs ++ ys) ≡ with_indexes (with_indexes known xs) ys
with_indexes-append known [] ys = refl
with_indexes-append known (x ∷ xs) ys = with_indexes-append (with_index known x) xs ys

-- ---- lists of indexes

module _ (known : List ℕ) (x : ℕ) where
  -- what is listed stays listed
  pub with_index-keeps : (q : ℕ) → list_any (nat_eq q) known ≡ true → list_any (nat_eq q) (with_index known x) ≡ true
  with_index-keeps q h = by (list_any (nat_eq x) known) refl
    where
      by : (b : Bool) → list_any (nat_eq x) known ≡ b → list_any (nat_eq q) (with_index known x) ≡ true
      by true e = rw e h
      by false e = rw e (any-left (nat_eq q) known (x ∷ []) h)

  -- the one more is listed
  pub with_index-puts : list_any (nat_eq x) (with_index known x) ≡ true
  with_index-puts = by (list_any (nat_eq x) known) refl
    where
      by : (b : Bool) → list_any (nat_eq x) known ≡ b → list_any (nat_eq x) (with_index known x) ≡ true
      by true e = rw e e
      by false e = rw e (any-right (nat_eq x) known (x ∷ []) (or_left (nat_eq x x) false (same-test x)))

  -- what stands at an index stood there, or is the one more
  pub with_index-from : (i q : ℕ) → slice_get (with_index known x) i ≡ Some q → (slice_get known i ≡ Some q) ⊎ ((length known ≤ i) × (q ≡ x))
  with_index-from i q h = by (list_any (nat_eq x) known) refl
    where
      by : (b : Bool) → list_any (nat_eq x) known ≡ b → (slice_get known i ≡ Some q) ⊎ ((length known ≤ i) × (q ≡ x))
      by true e = inl (rw e at h)
      by false e = elim (slice_get-push known x i q (rw e at h)) [
        | inl here ↦ inl here.1
        | inr new ↦ let last : i ≡ length known = new.0 in inr (omega arith, sym new.1)
      ]

  -- no fewer are listed
  with_index-long : length known ≤ length (with_index known x)
  with_index-long = by (list_any (nat_eq x) known) refl
    where
      by : (b : Bool) → list_any (nat_eq x) known ≡ b → length known ≤ length (with_index known x)
      by true e = rw e (omega arith)
      by false e = rw e (omega (arith, length-append known (x ∷ [])))

  -- no two are the same
  pub with_index-distinct : IsDistinct nat_eq known → IsDistinct nat_eq (with_index known x)
  with_index-distinct d = by (list_any (nat_eq x) known) refl
    where
      by : (b : Bool) → list_any (nat_eq x) known ≡ b → IsDistinct nat_eq (with_index known x)
      by true e = rw e d
      by false e = rw e (IsDistinct-push nat_eq_equiv known x d e)

-- nor are there in no list
pub distinct-none : IsDistinct nat_eq []
unfolding IsDistinct
distinct-none = tt

-- what is listed stays listed with several more
with_indexes-keeps : (known xs : List ℕ) (q : ℕ) → list_any (nat_eq q) known ≡ true → list_any (nat_eq q) (with_indexes known xs) ≡ true
with_indexes-keeps known [] q h = h
with_indexes-keeps known (x ∷ xs) q h = with_indexes-keeps (with_index known x) xs q (with_index-keeps known x q h)

-- each of them is listed
pub with_indexes-puts : (known xs : List ℕ) (q : ℕ) → list_any (nat_eq q) xs ≡ true → list_any (nat_eq q) (with_indexes known xs) ≡ true
with_indexes-puts known [] q h = absurd cc
with_indexes-puts known (x ∷ xs) q h = by (or-split (nat_eq q x) (list_any (nat_eq q) xs) h) (with_indexes-puts (with_index known x) xs q)
  where
    by : (nat_eq q x ≡ true) ⊎ (list_any (nat_eq q) xs ≡ true) → (list_any (nat_eq q) xs ≡ true → list_any (nat_eq q) (with_indexes (with_index known x) xs) ≡ true)
        → list_any (nat_eq q) (with_indexes known (x ∷ xs)) ≡ true
    by (inl here) rest = with_indexes-keeps (with_index known x) xs q (subst (λ y. list_any (nat_eq y) (with_index known x) ≡ true) (sym (same-from_test q x here)) (with_index-puts known x))
    by (inr there) rest = rest there

-- what stands at an index stood there, or is one of them
pub with_indexes-from : (known xs : List ℕ) (i q : ℕ) → slice_get (with_indexes known xs) i ≡ Some q → (slice_get known i ≡ Some q) ⊎ ((length known ≤ i) × (list_any (nat_eq q) xs ≡ true))
with_indexes-from known [] i q h = inl h
with_indexes-from known (x ∷ xs) i q h = by (with_indexes-from (with_index known x) xs i q h)
  where
    first : (slice_get known i ≡ Some q) ⊎ ((length known ≤ i) × (q ≡ x)) → (slice_get known i ≡ Some q) ⊎ ((length known ≤ i) × (list_any (nat_eq q) (x ∷ xs) ≡ true))
    first (inl here) = inl here
    first (inr new) = inr (new.0, or_left (nat_eq q x) (list_any (nat_eq q) xs) (subst (λ y. nat_eq q y ≡ true) new.1 (same-test q)))

    by : (slice_get (with_index known x) i ≡ Some q) ⊎ ((length (with_index known x) ≤ i) × (list_any (nat_eq q) xs ≡ true))
        → (slice_get known i ≡ Some q) ⊎ ((length known ≤ i) × (list_any (nat_eq q) (x ∷ xs) ≡ true))
    by (inl here) = first (with_index-from known x i q here)
    by (inr new) =
        let far : length (with_index known x) ≤ i = new.0 in
        let long : length known ≤ length (with_index known x) = with_index-long known x in
        inr (omega arith, or_right (nat_eq q x) (list_any (nat_eq q) xs) new.1)

-- no fewer are listed
with_indexes-long : (known xs : List ℕ) → length known ≤ length (with_indexes known xs)
with_indexes-long known [] = omega arith
with_indexes-long known (x ∷ xs) =
    let first : length known ≤ length (with_index known x) = with_index-long known x in
    let rest : length (with_index known x) ≤ length (with_indexes (with_index known x) xs) = with_indexes-long (with_index known x) xs in
    let all : length known ≤ length (with_indexes (with_index known x) xs) = omega arith in
    all

-- no two are the same
pub with_indexes-distinct : (known xs : List ℕ) → IsDistinct nat_eq known → IsDistinct nat_eq (with_indexes known xs)
with_indexes-distinct known [] d = d
with_indexes-distinct known (x ∷ xs) d = with_indexes-distinct (with_index known x) xs (with_index-distinct known x d)

-- ---- steps of the loops

-- the indexes of texts, and of others
indexes_within-append : (variables : List Variable) (texts more : List (List ℕ)) → indexes_within variables (texts ++ more) ≡ indexes_within variables texts ++ indexes_within variables more
indexes_within-append variables [] more = refl
indexes_within-append variables (text ∷ texts) more =
    ap (λ rest. indexes_in variables text ++ rest) (indexes_within-append variables texts more) ∙ sym (append_assoc (indexes_in variables text) (indexes_within variables texts) (indexes_within variables more))

-- first those of texts, and then those of others behind them
pub indexes_within-both : (variables : List Variable) (known some : List ℕ) (texts more all : List (List ℕ)) → texts ++ more ≡ all → some ≡ with_indexes known (indexes_within variables texts)
    → with_indexes some (indexes_within variables more) ≡ with_indexes known (indexes_within variables all)
indexes_within-both variables known some texts more all e s =
    ap (λ l. with_indexes l (indexes_within variables more)) s ∙ sym (with_indexes-append known (indexes_within variables texts) (indexes_within variables more))
    ∙ ap (with_indexes known) (sym (indexes_within-append variables texts more) ∙ ap (indexes_within variables) e)

-- ---- what the names of texts lead to

module _ (variables : List Variable) where
  -- a name that has no index adds none
  indexes_of-none : (name : List ℕ) (ps : List Part) → index_of variables name ≡ None → indexes_of variables (Name name ∷ ps) ≡ indexes_of variables ps
  indexes_of-none name ps h = rw (h, numbers_of) refl

  -- where the name has an index, that comes first
  indexes_of-some : (name : List ℕ) (ps : List Part) (index : ℕ) → index_of variables name ≡ Some index → indexes_of variables (Name name ∷ ps) ≡ index ∷ indexes_of variables ps
  indexes_of-some name ps index h = rw (h, numbers_of) refl

  -- the indexes that parts name are indexes of variables
  pub indexes_of-below : (ps : List Part) (q : ℕ) → list_any (nat_eq q) (indexes_of variables ps) ≡ true → q < length variables
  indexes_of-below [] q h = absurd cc
  indexes_of-below (Byte b ∷ ps) q h = indexes_of-below ps q h
  indexes_of-below (Name name ∷ ps) q h = by (index_of variables name) refl (indexes_of-below ps q)
    where
      by : (found : Option ℕ) → index_of variables name ≡ found → (list_any (nat_eq q) (indexes_of variables ps) ≡ true → q < length variables) → q < length variables
      by None e rest = rest (sym (ap (list_any (nat_eq q)) (indexes_of-none name ps e)) ∙ h)
      by (Some index) e rest = elim (or-split (nat_eq q index) (list_any (nat_eq q) (indexes_of variables ps)) (sym (ap (list_any (nat_eq q)) (indexes_of-some name ps index e)) ∙ h)) [
        | inl here ↦ subst (λ n. n < length variables) (sym (same-from_test q index here)) (index_of-within variables name index e)
        | inr there ↦ rest there
      ]
  indexes_of-below (Unclosed ∷ ps) q h = indexes_of-below ps q h

  -- and so are those that texts name
  pub indexes_within-below : (texts : List (List ℕ)) (q : ℕ) → list_any (nat_eq q) (indexes_within variables texts) ≡ true → q < length variables
  indexes_within-below [] q h = absurd cc
  indexes_within-below (text ∷ texts) q h = by (any-split (nat_eq q) (indexes_in variables text) (indexes_within variables texts) h) (indexes_within-below texts q)
    where
      by : (list_any (nat_eq q) (indexes_in variables text) ≡ true) ⊎ (list_any (nat_eq q) (indexes_within variables texts) ≡ true)
          → (list_any (nat_eq q) (indexes_within variables texts) ≡ true → q < length variables) → q < length variables
      by (inl here) rest = indexes_of-below (parts text) q here
      by (inr there) rest = rest there

  -- the words at an index that parts name are behind them
  pub words_behind-index : (test : List ℕ → Bool) (ps : List Part) (q : ℕ) → list_any (nat_eq q) (indexes_of variables ps) ≡ true → list_any test (words_at variables q) ≡ true
      → list_any test (words_behind_parts variables ps) ≡ true
  words_behind-index test [] q h k = absurd cc
  words_behind-index test (Byte b ∷ ps) q h k = words_behind-index test ps q h k
  words_behind-index test (Name name ∷ ps) q h k = by (index_of variables name) refl (λ there. words_behind-index test ps q there k)
    where
      by : (found : Option ℕ) → index_of variables name ≡ found → (list_any (nat_eq q) (indexes_of variables ps) ≡ true → list_any test (words_behind_parts variables ps) ≡ true)
          → list_any test (words_behind_parts variables (Name name ∷ ps)) ≡ true
      by None e rest =
          any-right test (words_named variables name) (words_behind_parts variables ps) (rest (sym (ap (list_any (nat_eq q)) (indexes_of-none name ps e)) ∙ h))
      by (Some index) e rest = elim (or-split (nat_eq q index) (list_any (nat_eq q) (indexes_of variables ps)) (sym (ap (list_any (nat_eq q)) (indexes_of-some name ps index e)) ∙ h)) [
        | inl here ↦ any-left test (words_named variables name) (words_behind_parts variables ps)
            (ap (list_any test) (words_named-from_some variables name index e ∙ ap (words_at variables) (sym (same-from_test q index here))) ∙ k)
        | inr there ↦ any-right test (words_named variables name) (words_behind_parts variables ps) (rest there)
      ]
  words_behind-index test (Unclosed ∷ ps) q h k = words_behind-index test ps q h k

  -- a text leads on to what the words at the indexes that it names lead to
  leads-index : (text : List ℕ) (q depth : ℕ) → list_any (nat_eq q) (indexes_in variables text) ≡ true
      → list_any (leads_to_undefined_within variables depth) (words_at variables q) ≡ true → leads_to_undefined_within variables (suc depth) text ≡ true
  leads-index text q depth h k =
      or_right (names_undefined variables text) (list_any (leads_to_undefined_within variables depth) (words_behind variables text))
      (words_behind-index (leads_to_undefined_within variables depth) (parts text) q h k)

  -- and so does one of several texts
  leads-indexes : (texts : List (List ℕ)) (q depth : ℕ) → list_any (nat_eq q) (indexes_within variables texts) ≡ true
      → list_any (leads_to_undefined_within variables depth) (words_at variables q) ≡ true → list_any (leads_to_undefined_within variables (suc depth)) texts ≡ true
  leads-indexes [] q depth h k = absurd cc
  leads-indexes (text ∷ texts) q depth h k = by (any-split (nat_eq q) (indexes_in variables text) (indexes_within variables texts) h) (λ there. leads-indexes texts q depth there k)
    where
      by : (list_any (nat_eq q) (indexes_in variables text) ≡ true) ⊎ (list_any (nat_eq q) (indexes_within variables texts) ≡ true)
          → (list_any (nat_eq q) (indexes_within variables texts) ≡ true → list_any (leads_to_undefined_within variables (suc depth)) texts ≡ true)
          → list_any (leads_to_undefined_within variables (suc depth)) (text ∷ texts) ≡ true
      by (inl here) rest = or_left (leads_to_undefined_within variables (suc depth) text) (list_any (leads_to_undefined_within variables (suc depth)) texts) (leads-index text q depth here k)
      by (inr there) rest = or_right (leads_to_undefined_within variables (suc depth) text) (list_any (leads_to_undefined_within variables (suc depth)) texts) (rest there)

  -- what a text leads to it leads to over one variable more
  leads-one_more : (depth : ℕ) (text : List ℕ) → leads_to_undefined_within variables depth text ≡ true → leads_to_undefined_within variables (suc depth) text ≡ true
  leads-one_more zero text h = or_left (names_undefined variables text) (list_any (leads_to_undefined_within variables zero) (words_behind variables text)) h
  leads-one_more (suc depth) text h = by (or-split (names_undefined variables text) (list_any (leads_to_undefined_within variables depth) (words_behind variables text)) h) (leads-one_more depth)
    where
      by : (names_undefined variables text ≡ true) ⊎ (list_any (leads_to_undefined_within variables depth) (words_behind variables text) ≡ true)
          → ((word : List ℕ) → leads_to_undefined_within variables depth word ≡ true → leads_to_undefined_within variables (suc depth) word ≡ true)
          → leads_to_undefined_within variables (suc (suc depth)) text ≡ true
      by (inl here) rest = or_left (names_undefined variables text) (list_any (leads_to_undefined_within variables (suc depth)) (words_behind variables text)) here
      by (inr there) rest = or_right (names_undefined variables text) (list_any (leads_to_undefined_within variables (suc depth)) (words_behind variables text))
          (any-weaker (leads_to_undefined_within variables depth) (leads_to_undefined_within variables (suc depth)) rest (words_behind variables text) there)

  -- over several more
  leads-several_more : (more depth : ℕ) (text : List ℕ) → leads_to_undefined_within variables depth text ≡ true → leads_to_undefined_within variables (more + depth) text ≡ true
  leads-several_more zero depth text h = let same : 0 + depth ≡ depth = omega arith in rw same h
  leads-several_more (suc more) depth text h =
      let same : suc more + depth ≡ suc (more + depth) = omega arith in
      rw same (leads-one_more (more + depth) text (leads-several_more more depth text h))

  -- over as many, or more
  leads-within : (depth deeper : ℕ) (text : List ℕ) → depth ≤ deeper → leads_to_undefined_within variables depth text ≡ true → leads_to_undefined_within variables deeper text ≡ true
  leads-within depth deeper text le h =
      let same : deeper ≡ (deeper - depth) + depth = omega arith in
      subst (λ d. leads_to_undefined_within variables d text ≡ true) (sym same) (leads-several_more (deeper - depth) depth text h)

-- ---- the gathered indexes so far

module _ (variables : List Variable) (text : List ℕ) where
  -- what the text names is gathered first
  pub reached-begins : (none reached : List ℕ) → none ≡ [] → reached ≡ with_indexes none (indexes_in variables text) → names_undefined variables text ≡ false
      → IsReachedSoFar variables text reached 0
  reached-begins none reached n h fine = subst (λ r. IsReachedSoFar variables text r 0) (sym (h ∙ ap (λ l. with_indexes l (indexes_in variables text)) n)) begun
    where
      at_first : (before q : ℕ) → slice_get (with_indexes [] (indexes_in variables text)) before ≡ Some q → list_any (nat_eq q) (indexes_in variables text) ≡ true
      at_first before q k = elim (with_indexes-from [] (indexes_in variables text) before q k) [ inl here ↦ absurd cc | inr new ↦ new.1 ]

      begun : IsReachedSoFar variables text (with_indexes [] (indexes_in variables text)) 0
      begun = record {
        named = λ index k. with_indexes-puts [] (indexes_in variables text) index k;
        closed = λ before of index lt k l. absurd (omega arith);
        start = fine;
        fine = λ before of lt k. absurd (omega arith);
        below = λ index k. let found = index-found (with_indexes [] (indexes_in variables text)) index k in indexes_of-below variables (parts text) index (at_first found.0 index found.1);
        distinct = with_indexes-distinct [] (indexes_in variables text) distinct-none;
        within = omega arith;
        led = λ before of depth k l. leads-within variables (suc depth) (suc (before + depth)) text (omega arith) (leads-index variables text of depth (at_first before of k) l);
      }

  -- a text that names something undefined leads to it
  pub text-refused : names_undefined variables text ≡ true → leads_to_undefined variables text ≡ true
  text-refused h = leads-within variables zero (length variables) text (omega arith) h

  -- there are no more of them than variables
  pub reached-few : (reached : List ℕ) (at : ℕ) → IsReachedSoFar variables text reached at → length reached ≤ length variables
  reached-few reached at so_far = length-le_from_distinct_below reached (length variables) so_far.distinct so_far.below

  -- one of them whose words name something undefined
  pub reached-refused : (reached : List ℕ) (at index : ℕ) → IsReachedSoFar variables text reached at → Some index ≡ slice_get reached at
      → list_any (names_undefined variables) (words_at variables index) ≡ true → leads_to_undefined variables text ≡ true
  reached-refused reached at index so_far h k =
      let within : at < length reached = slice_get_within reached at index (sym h) in
      let few : length reached ≤ length variables = reached-few reached at so_far in
      leads-within variables (suc (at + 0)) (length variables) text (omega arith) (so_far.led at index 0 (sym h) k)

module _ (variables : List Variable) (reached : List ℕ) where
  -- parts are known whose indexes are gathered
  pub parts-known : (ps : List Part) → ((q : ℕ) → list_any (nat_eq q) (indexes_of variables ps) ≡ true → list_any (nat_eq q) reached ≡ true)
      → list_all (is_part_known variables reached) ps ≡ true
  parts-known [] has = refl
  parts-known (Byte b ∷ ps) has = parts-known ps has
  parts-known (Name name ∷ ps) has = by (index_of variables name) refl (parts-known ps)
    where
      by : (found : Option ℕ) → index_of variables name ≡ found
          → (((q : ℕ) → list_any (nat_eq q) (indexes_of variables ps) ≡ true → list_any (nat_eq q) reached ≡ true) → list_all (is_part_known variables reached) ps ≡ true)
          → list_all (is_part_known variables reached) (Name name ∷ ps) ≡ true
      by None e rest =
          let here : is_part_known variables reached (Name name) ≡ true = rw (e, is_part_known) refl in
          both_true here
          (rest (λ q k. has q (ap (list_any (nat_eq q)) (indexes_of-none variables name ps e) ∙ k)))
      by (Some index) e rest =
          let first : list_any (nat_eq index) (indexes_of variables (Name name ∷ ps)) ≡ true =
          ap (list_any (nat_eq index)) (indexes_of-some variables name ps index e) ∙ or_left (nat_eq index index) (list_any (nat_eq index) (indexes_of variables ps)) (same-test index) in
          let here : is_part_known variables reached (Name name) ≡ true = rw (e, is_part_known) (has index first) in
          both_true here
          (rest (λ q k. has q (ap (list_any (nat_eq q)) (indexes_of-some variables name ps index e) ∙ or_right (nat_eq q index) (list_any (nat_eq q) (indexes_of variables ps)) k)))
  parts-known (Unclosed ∷ ps) has = parts-known ps has

  -- so are texts
  pub texts-known : (texts : List (List ℕ)) → ((q : ℕ) → list_any (nat_eq q) (indexes_within variables texts) ≡ true → list_any (nat_eq q) reached ≡ true)
      → are_texts_known variables reached texts ≡ true
  texts-known [] has = refl
  texts-known (text ∷ texts) has =
      both_true
      (parts-known (parts text) (λ q k. has q (any-left (nat_eq q) (indexes_in variables text) (indexes_within variables texts) k)))
      (texts-known texts (λ q k. has q (any-right (nat_eq q) (indexes_in variables text) (indexes_within variables texts) k)))

  -- no word behind known parts passes a test that no word at a gathered index passes
  behind-none : (test : List ℕ → Bool) → ((index : ℕ) → list_any (nat_eq index) reached ≡ true → list_any test (words_at variables index) ≡ false)
      → (ps : List Part) → list_all (is_part_known variables reached) ps ≡ true → list_any test (words_behind_parts variables ps) ≡ false
  behind-none test fails = no_word_behind variables reached test (λ name known. by name known (index_of variables name) refl)
    where
      by : (name : List ℕ) → is_part_known variables reached (Name name) ≡ true → (found : Option ℕ) → index_of variables name ≡ found
          → list_any test (words_named variables name) ≡ false
      by name known None e = ap (list_any test) (words_named-from_none variables name e)
      by name known (Some index) e = ap (list_any test) (words_named-from_some variables name index e) ∙ fails index (rw (e, is_part_known) at known)

  -- no known text that names nothing undefined passes a test that no such text passes
  texts-none : (test : List ℕ → Bool) → ((text : List ℕ) → is_text_known variables reached text ≡ true → names_undefined variables text ≡ false → test text ≡ false)
      → (texts : List (List ℕ)) → are_texts_known variables reached texts ≡ true → list_any (names_undefined variables) texts ≡ false → list_any test texts ≡ false
  texts-none test fails [] h k = refl
  texts-none test fails (text ∷ texts) h k =
      let known = and_parts (is_text_known variables reached text) (are_texts_known variables reached texts) h in
      or_from (test text) (list_any test texts)
      (fails text known.0 (or_parts (names_undefined variables text) (list_any (names_undefined variables) texts) k).0)
      (texts-none test fails texts known.1 (or_parts (names_undefined variables text) (list_any (names_undefined variables) texts) k).1)

  -- a known text that names nothing undefined leads to nothing undefined, where no word at a gathered index does
  pub leads-none : ((index : ℕ) → list_any (nat_eq index) reached ≡ true → are_texts_known variables reached (words_at variables index) ≡ true)
      → ((index : ℕ) → list_any (nat_eq index) reached ≡ true → list_any (names_undefined variables) (words_at variables index) ≡ false)
      → (depth : ℕ) (text : List ℕ) → is_text_known variables reached text ≡ true → names_undefined variables text ≡ false → leads_to_undefined_within variables depth text ≡ false
  leads-none closed fine zero text h k = k
  leads-none closed fine (suc depth) text h k =
      or_from (names_undefined variables text) (list_any (leads_to_undefined_within variables depth) (words_behind variables text)) k
      (behind-none (leads_to_undefined_within variables depth)
      (λ index has. texts-none (leads_to_undefined_within variables depth) (leads-none closed fine depth) (words_at variables index) (closed index has) (fine index has))
      (parts text) h)

module _ (variables : List Variable) (text : List ℕ) (reached : List ℕ) (at : ℕ) (so_far : IsReachedSoFar variables text reached at) where
  module _ (here : ℕ) (h : Some here ≡ slice_get reached at) (fine : list_any (names_undefined variables) (words_at variables here) ≡ false) where
    -- the indexes as they are then
    abbrev gathered : List ℕ
    gathered = with_indexes reached (indexes_within variables (words_at variables here))

    -- the next index is one of those that were there
    next_within : at < length reached
    next_within = slice_get_within reached at here (sym h)

    -- what stands at an index up to the next stood there
    stood : (before of : ℕ) → before < at + 1 → slice_get gathered before ≡ Some of → slice_get reached before ≡ Some of
    stood before of lt k = by (with_indexes-from reached (indexes_within variables (words_at variables here)) before of k)
      where
        by : (slice_get reached before ≡ Some of) ⊎ ((length reached ≤ before) × (list_any (nat_eq of) (indexes_within variables (words_at variables here)) ≡ true)) → slice_get reached before ≡ Some of
        by (inl old) = old
        by (inr new) = let far : length reached ≤ before = new.0 in let within : at < length reached = next_within in absurd (omega arith)

    -- what the words name that were looked at is gathered
    gathered-closed : (before of index : ℕ) → before < at + 1 → slice_get gathered before ≡ Some of
        → list_any (nat_eq index) (indexes_within variables (words_at variables of)) ≡ true → list_any (nat_eq index) gathered ≡ true
    gathered-closed before of index lt k l = by (cases_eq before at) (stood before of lt k)
      where
        by : (before ≡ at) ⊎ (before ≡ at → ⊥) → slice_get reached before ≡ Some of → list_any (nat_eq index) gathered ≡ true
        by (inl e) old =
            let same : of ≡ here = cc in
            with_indexes-puts reached (indexes_within variables (words_at variables here)) index (subst (λ n. list_any (nat_eq index) (indexes_within variables (words_at variables n)) ≡ true) same l)
        by (inr ne) old =
            let below : before < at = omega arith in
            with_indexes-keeps reached (indexes_within variables (words_at variables here)) index (so_far.closed before of index below old l)

    -- and none of it is undefined
    gathered-fine : (before of : ℕ) → before < at + 1 → slice_get gathered before ≡ Some of → list_any (names_undefined variables) (words_at variables of) ≡ false
    gathered-fine before of lt k = by (cases_eq before at) (stood before of lt k)
      where
        by : (before ≡ at) ⊎ (before ≡ at → ⊥) → slice_get reached before ≡ Some of → list_any (names_undefined variables) (words_at variables of) ≡ false
        by (inl e) old =
            let same : here ≡ of = cc in
            subst (λ n. list_any (names_undefined variables) (words_at variables n) ≡ false) same fine
        by (inr ne) old =
            let below : before < at = omega arith in
            so_far.fine before of below old

    -- the indexes are those of variables
    gathered-below : (index : ℕ) → list_any (nat_eq index) gathered ≡ true → index < length variables
    gathered-below index k = by (index-found gathered index k)
      where
        from : (before : ℕ) → (slice_get reached before ≡ Some index) ⊎ ((length reached ≤ before) × (list_any (nat_eq index) (indexes_within variables (words_at variables here)) ≡ true)) → index < length variables
        from before (inl old) = so_far.below index (listed reached before index old)
        from before (inr new) = indexes_within-below variables (words_at variables here) index new.1

        by : (before : ℕ) × (slice_get gathered before ≡ Some index) → index < length variables
        by found = from found.0 (with_indexes-from reached (indexes_within variables (words_at variables here)) found.0 index found.1)

    -- and the text leads to the words of each
    gathered-led : (before of depth : ℕ) → slice_get gathered before ≡ Some of → list_any (leads_to_undefined_within variables depth) (words_at variables of) ≡ true
        → leads_to_undefined_within variables (suc (before + depth)) text ≡ true
    gathered-led before of depth k l = by (with_indexes-from reached (indexes_within variables (words_at variables here)) before of k)
      where
        by : (slice_get reached before ≡ Some of) ⊎ ((length reached ≤ before) × (list_any (nat_eq of) (indexes_within variables (words_at variables here)) ≡ true))
            → leads_to_undefined_within variables (suc (before + depth)) text ≡ true
        by (inl old) = so_far.led before of depth old l
        by (inr new) =
            let far : length reached ≤ before = new.0 in
            let within : at < length reached = next_within in
            leads-within variables (suc (at + suc depth)) (suc (before + depth)) text (omega arith)
            (so_far.led at here (suc depth) (sym h) (leads-indexes variables (words_at variables here) of depth new.1 l))

    -- so the next index was looked at
    pub reached-goes_on : (more : List ℕ) → more ≡ with_indexes reached (indexes_within variables (words_at variables here)) → IsReachedSoFar variables text more (at + 1)
    reached-goes_on more m =
        let within : at < length reached = next_within in
        let long : length reached ≤ length gathered = with_indexes-long reached (indexes_within variables (words_at variables here)) in
        subst (λ l. IsReachedSoFar variables text l (at + 1)) (sym m) record {
          named = λ index k. with_indexes-keeps reached (indexes_within variables (words_at variables here)) index (so_far.named index k);
          closed = gathered-closed;
          start = so_far.start;
          fine = gathered-fine;
          below = gathered-below;
          distinct = with_indexes-distinct reached (indexes_within variables (words_at variables here)) so_far.distinct;
          within = omega arith;
          led = gathered-led;
        }

  -- what the text names is known
  pub reached-named : is_text_known variables reached text ≡ true
  reached-named = parts-known variables reached (parts text) so_far.named

  module _ (end : None ≡ slice_get reached at) where
    -- a gathered index was looked at
    looked_at : (index : ℕ) → list_any (nat_eq index) reached ≡ true → (before : ℕ) × (before < at) × (slice_get reached before ≡ Some index)
    looked_at index has =
        let found = index-found reached index has in
        let within : found.0 < length reached = slice_get_within reached found.0 index found.1 in
        let past : length reached ≤ at = past-none reached at end in
        let below : found.0 < at = omega arith in
        (found.0, below, found.1)

    -- so what their words name is known
    pub reached-closed : (index : ℕ) → list_any (nat_eq index) reached ≡ true → are_texts_known variables reached (words_at variables index) ≡ true
    reached-closed index has =
        let found = looked_at index has in
        texts-known variables reached (words_at variables index) (λ q k. so_far.closed found.0 index q found.1 found.2 k)

    -- and the text leads to nothing undefined
    pub reached-defined : leads_to_undefined variables text ≡ false
    reached-defined =
        leads-none variables reached reached-closed (λ index has. let found = looked_at index has in so_far.fine found.0 index found.1 found.2) (length variables) text reached-named so_far.start
