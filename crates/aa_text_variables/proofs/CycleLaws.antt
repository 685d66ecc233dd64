-- What leads to a cycle: a chain of more variables than there are goes over one of them twice, and one may go round as often as one likes.
use Rattle.std.proofs.Common.{◌≡◌, ℕ, zero, suc, ◌+◌, ◌<◌, Bool, true, false, List, [], ◌∷◌, ◌++◌, length, arith, length-append, refl, sym, ap, ◌∙◌, ◌⊎◌, inl, inr}
use Rattle.std.specs.Prelude.{Option, None, Some, nat_eq}
use Rattle.std.specs.List.{Contains, IsDistinct, list_any}
use Rattle.std.proofs.lemmas.Cmp.{nat_eq_equiv}
use Rattle.std.proofs.lemmas.Bool.{or_left, or_right, true_from_ne_false}
use Rattle.std.proofs.lemmas.List.Folds.{list_any_at}
use Rattle.std.proofs.lemmas.Map.Keys.{IsDistinct-push}
use Rattle.std.proofs.lemmas.Map.Steps.{length-le_from_distinct_below}
use Rattle.std.proofs.lemmas.Slice.Eq.{bytes_eq-Decides}
use Rattle.aa_text_expansion.specs.Parts.{Byte, Name, Part, Unclosed, parts}
use Rattle.aa_text_variables.proofs.ChainLemmas.{shorter_chain}
use Rattle.aa_text_variables.proofs.ExpansionLaws.{words-of_named}
use Rattle.aa_text_variables.proofs.IndexLemmas.{index_of-within, words_named-from_none, words_named-from_some}
use Rattle.aa_text_variables.proofs.TestLemmas.{any-split, or-split, same-from_test}
use Rattle.aa_text_variables.specs.CycleLaws.{LeadsTo, LeadsToItself, ReachesCycle, at_once, over}
use Rattle.aa_text_variables.specs.ExpansionLaws.{is_name, names_variable}
use Rattle.aa_text_variables.specs.Expansions.{has_chain, is_cyclic, leads_to_cycle, words_behind_parts, words_named, words_of}
use Rattle.aa_text_variables.specs.code.VariableWalks.{AllBelow}
use Rattle.aa_text_variables.specs.code.VariableIndexes.{index_of, words_at}
use Rattle.aa_text_variables.specs.Variables.{Variable, named}

module _ {X : Type 0} (test : X → Bool) where
  -- one that passes a test, where any does
  some-element : (xs : List X) → list_any test xs ≡ true → (x : X) × Contains xs x × (test x ≡ true)
  some-element [] h = absurd (cc)
  some-element (x ∷ xs) h = by (or-split (test x) (list_any test xs) h) (some-element xs)
    where
      by : (test x ≡ true) ⊎ (list_any test xs ≡ true) → (list_any test xs ≡ true → (y : X) × Contains xs y × (test y ≡ true)) → (y : X) × Contains (x ∷ xs) y × (test y ≡ true)
      by (inl here) rest = (x, (0, omega arith, refl), here)
      by (inr there) rest =
          let found = rest there in
          let within = found.1.1 in
          (found.0, (suc found.1.0, omega arith, found.1.2), found.2)

  -- any passes a test where one does
  any-of_element : (xs : List X) (x : X) → Contains xs x → test x ≡ true → list_any test xs ≡ true
  any-of_element xs x among h = list_any_at test xs among.0 x among.1 (ap test among.2 ∙ h)

-- an index that is among others and one more is among the others, or is that one
among-pushed : (indexes : List ℕ) (index other : ℕ) → list_any (nat_eq other) (indexes ++ index ∷ []) ≡ true → (list_any (nat_eq other) indexes ≡ true) ⊎ (other ≡ index)
among-pushed indexes index other h = elim (any-split (nat_eq other) indexes (index ∷ []) h) [
  | inl there ↦ inl there
  | inr last ↦ elim (or-split (nat_eq other index) false last) [
    | inl same ↦ inr (same-from_test other index same)
    | inr none ↦ absurd (cc)
  ]
]

-- where there are no indexes, none comes twice
distinct-none : IsDistinct nat_eq []
unfolding IsDistinct
distinct-none = tt

module _ (variables : List Variable) where
  -- a word behind parts that passes a test is one of a name among them
  some-name : (test : List ℕ → Bool) (ps : List Part) → list_any test (words_behind_parts variables ps) ≡ true
      → (name : List ℕ) × (list_any (is_name name) ps ≡ true) × (list_any test (words_named variables name) ≡ true)
  some-name test [] h = absurd (cc)
  some-name test (Byte b ∷ ps) h = some-name test ps h
  some-name test (Name name ∷ ps) h = by (any-split test (words_named variables name) (words_behind_parts variables ps) h) (some-name test ps)
    where
      by : (list_any test (words_named variables name) ≡ true) ⊎ (list_any test (words_behind_parts variables ps) ≡ true)
          → (list_any test (words_behind_parts variables ps) ≡ true → (other : List ℕ) × (list_any (is_name other) ps ≡ true) × (list_any test (words_named variables other) ≡ true))
          → (other : List ℕ) × (list_any (is_name other) (Name name ∷ ps) ≡ true) × (list_any test (words_named variables other) ≡ true)
      by (inl here) rest = (name, or_left _ _ ((bytes_eq-Decides name name).1 refl), here)
      by (inr there) rest = let found = rest there in (found.0, or_right _ _ found.1, found.2)
  some-name test (Unclosed ∷ ps) h = some-name test ps h

  -- ---- round a cycle

  -- a chain behind the words of a name is behind a text that names it
  chain-named : (size : ℕ) (text name : List ℕ) → names_variable text name ≡ true → list_any (has_chain variables size) (words_named variables name) ≡ true
      → has_chain variables (suc size) text ≡ true
  chain-named size text name named h =
      true_from_ne_false _ (λ none. let there = words-of_named variables (has_chain variables size) (parts text) name none named in cc)

  -- and behind one that leads to it
  chain-led : (size : ℕ) (text name : List ℕ) → LeadsTo variables text name → list_any (has_chain variables size) (words_named variables name) ≡ true
      → has_chain variables (suc size) text ≡ true
  chain-led size text name (at_once _ _ named) h = chain-named size text name named h
  chain-led size text name (over _ between word _ named among rest) h =
      let behind = any-of_element (has_chain variables (suc size)) (words_named variables between) word among (chain-led size word name rest h) in
      shorter_chain variables (suc size) (suc (suc size)) (omega arith) text (chain-named (suc size) text between named behind)

  -- behind the words of a variable that leads to itself are chains of any size
  chain-round : (size : ℕ) (name : List ℕ) → LeadsToItself variables name → list_any (has_chain variables size) (words_named variables name) ≡ true
  chain-round zero name round = any-of_element (has_chain variables zero) (words_named variables name) round.0 round.1 refl
  chain-round (suc size) name round =
      any-of_element (has_chain variables (suc size)) (words_named variables name) round.0 round.1 (chain-led size round.0 name round.2 (chain-round size name round))

  -- so are they behind a text that leads to one
  pub chain-of_cycle : (text : List ℕ) → ReachesCycle variables text → (size : ℕ) → has_chain variables size text ≡ true
  chain-of_cycle text cycle size =
      shorter_chain variables size (suc size) (omega arith) text (chain-led size text cycle.0 cycle.1 (chain-round size cycle.0 cycle.2))

  -- ---- a variable that comes twice

  -- the variable at an index leads to all that a text does
  abbrev LeadsBy : List ℕ → ℕ → Type 0
  LeadsBy text index = (word : List ℕ) × Contains (words_at variables index) word × ((name : List ℕ) → LeadsTo variables text name → LeadsTo variables word name)

  module _ (start : List ℕ) where
    -- Behind a text that some variables lead to stands a chain, these and its own being more than there are.
    cycle-of_chain : (size : ℕ) (seen text : List ℕ) → length variables < size + length seen → IsDistinct nat_eq seen → AllBelow (length variables) seen
        → ((index : ℕ) → list_any (nat_eq index) seen ≡ true → LeadsBy text index)
        → ((name : List ℕ) → LeadsTo variables text name → LeadsTo variables start name)
        → has_chain variables size text ≡ true → ReachesCycle variables start
    cycle-of_chain zero seen text many apart below leads led h =
        let few = length-le_from_distinct_below seen (length variables) apart below in absurd (omega arith)
    cycle-of_chain (suc size) seen text many apart below leads led h =
        let found = some-name (has_chain variables size) (parts text) h in
        let word = some-element (has_chain variables size) (words_named variables found.0) found.2 in
        by found.0 found.1 word.0 word.1 word.2 (index_of variables found.0) refl (cycle-of_chain size)
      where
        by : (name : List ℕ) → names_variable text name ≡ true → (word : List ℕ) → Contains (words_named variables name) word → has_chain variables size word ≡ true
            → (found : Option ℕ) → index_of variables name ≡ found
            → ((seen text : List ℕ) → length variables < size + length seen → IsDistinct nat_eq seen → AllBelow (length variables) seen
            → ((index : ℕ) → list_any (nat_eq index) seen ≡ true → LeadsBy text index)
            → ((name : List ℕ) → LeadsTo variables text name → LeadsTo variables start name)
            → has_chain variables size text ≡ true → ReachesCycle variables start)
            → ReachesCycle variables start
        by name named word among chain None f rest =
            let none : Contains {X = List ℕ} [] word = rw (words_named-from_none variables name f) at among in
            let within = none.1 in
            absurd (omega arith)
        by name named word among chain (Some index) f rest = of (list_any (nat_eq index) seen) refl
          where
            words : words_named variables name ≡ words_at variables index
            words = words_named-from_some variables name index f

            of : (b : Bool) → list_any (nat_eq index) seen ≡ b → ReachesCycle variables start
            of true b =
                let here = at_once text name named in
                let round = leads index b in
                (name, led name here, (round.0, rw words round.1, round.2 name here))
            of false b =
                rest (seen ++ index ∷ []) word (omega (arith, many, length-append seen (index ∷ [])))
                (IsDistinct-push nat_eq_equiv seen index apart b)
                (λ other h. elim (among-pushed seen index other h) [
                  | inl there ↦ below other there
                  | inr same ↦ let within = index_of-within variables name index f in omega arith
                ])
                (λ other h. elim (among-pushed seen index other h) [
                  | inl there ↦ let before = leads other there in (before.0, before.1, λ next led. before.2 next (over text name word next named among led))
                  | inr same ↦ rw same (word, rw words at among, λ next led. led)
                ])
                (λ other h. led other (over text name word other named among h))
                chain

  -- a chain of more variables than there are reaches a cycle
  pub cycle-of_long_chain : (text : List ℕ) → leads_to_cycle variables text ≡ true → ReachesCycle variables text
  cycle-of_long_chain text h =
      cycle-of_chain text (suc (length variables)) [] text (omega arith) distinct-none (λ index none. absurd (cc)) (λ index none. absurd (cc)) (λ name led. led) h

  -- so behind a text that reaches one are chains of any size
  pub endless-of_long_chain : (text : List ℕ) → leads_to_cycle variables text ≡ true → (size : ℕ) → has_chain variables size text ≡ true
  endless-of_long_chain text h size = chain-of_cycle text (cycle-of_long_chain text h) size

  -- ---- a variable that leads to a cycle

  -- one word of a variable reaches a cycle where behind one stands a chain of as many variables as there are: with its own they are more
  pub word-of_chain : (variable : Variable) → named variable.name variables ≡ Some variable → is_cyclic variables variable ≡ true
      → (word : List ℕ) × Contains (words_of variable) word × ReachesCycle variables word
  word-of_chain variable e h = by (some-element (has_chain variables (length variables)) (words_of variable) h) (index_of variables variable.name) refl
    where
      own : words_named variables variable.name ≡ words_of variable
      own = rw (e, words_named) refl

      by : (found : (word : List ℕ) × Contains (words_of variable) word × (has_chain variables (length variables) word ≡ true)) → (at : Option ℕ) → index_of variables variable.name ≡ at
          → (word : List ℕ) × Contains (words_of variable) word × ReachesCycle variables word
      by found None f =
          let none : Contains {X = List ℕ} [] found.0 = rw (sym own ∙ words_named-from_none variables variable.name f) at found.1 in
          let within = none.1 in
          absurd (omega arith)
      by found (Some index) f =
          let words : words_of variable ≡ words_at variables index = sym own ∙ words_named-from_some variables variable.name index f in (
            found.0,
            found.1,
            cycle-of_chain found.0 (length variables) (index ∷ []) found.0 (omega arith)
                (IsDistinct-push nat_eq_equiv [] index distinct-none refl)
                (λ other h. elim (among-pushed [] index other h) [
                  | inl none ↦ absurd (cc)
                  | inr same ↦ let within = index_of-within variables variable.name index f in omega arith
                ])
                (λ other h. elim (among-pushed [] index other h) [
                  | inl none ↦ absurd (cc)
                  | inr same ↦ rw same (found.0, rw words at found.1, λ next led. led)
                ])
                (λ name led. led)
                found.2,
          )

  pub chain-of_word : (variable : Variable) → (word : List ℕ) × Contains (words_of variable) word × ReachesCycle variables word → is_cyclic variables variable ≡ true
  chain-of_word variable found =
      any-of_element (has_chain variables (length variables)) (words_of variable) found.0 found.1 (chain-of_cycle found.0 found.2 (length variables))
