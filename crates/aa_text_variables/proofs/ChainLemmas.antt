-- What an order of variables says of chains.
use Rattle.std.proofs.Common.{◌≡◌, ℕ, zero, suc, ◌<◌, ◌≤◌, Bool, true, false, List, [], ◌∷◌, length, take, arith, refl}
use Rattle.std.specs.Prelude.{Option, None, Some, nat_eq}
use Rattle.std.specs.List.{list_all, list_any}
use Rattle.std.proofs.lemmas.Bool.{and_parts, or_from}
use Rattle.std.proofs.lemmas.List.Folds.{list_any-append}
use Rattle.std.proofs.Math.Seq.{take-length}
use Rattle.aa_text_expansion.specs.Parts.{Byte, Name, Part, Unclosed, parts}
use Rattle.aa_text_variables.proofs.ListLemmas.{index-among_first}
use Rattle.aa_text_variables.proofs.IndexLemmas.{words_named-from_none, words_named-from_some}
use Rattle.aa_text_variables.proofs.TestLemmas.{any-weaker}
use Rattle.aa_text_variables.specs.code.ExpansionOrder.{IsOrder, are_texts_known, is_part_known, is_text_known}
use Rattle.aa_text_variables.specs.Expansions.{has_chain, leads_to_cycle, words_behind, words_behind_parts, words_named}
use Rattle.aa_text_variables.specs.code.VariableIndexes.{index_of, words_at}
use Rattle.aa_text_variables.specs.Variables.{Variable}

module _ (variables : List Variable) where
  -- a chain has shorter ones
  pub shorter_chain : (short long : ℕ) → short ≤ long → (text : List ℕ) → has_chain variables long text ≡ true → has_chain variables short text ≡ true
  shorter_chain zero long b text h = refl
  shorter_chain (suc short) zero b text h = absurd (omega arith)
  shorter_chain (suc short) (suc long) b text h =
      any-weaker (has_chain variables long) (has_chain variables short) (shorter_chain short long (omega arith)) (words_behind variables text) h

  -- where a chain is missing, longer ones are
  pub no_longer_chain : (short long : ℕ) → short ≤ long → (text : List ℕ) → has_chain variables short text ≡ false → has_chain variables long text ≡ false
  no_longer_chain short long b text h = by (has_chain variables long text) refl
    where
      by : (t : Bool) → has_chain variables long text ≡ t → t ≡ false
      by true t = let there = shorter_chain short long b text t in absurd (cc)
      by false t = refl

  module _ (known : List ℕ) (test : List ℕ → Bool) where
    -- no word behind parts passes a test that none of the words of a known name passes
    pub no_word_behind : ((name : List ℕ) → is_part_known variables known (Name name) ≡ true → list_any test (words_named variables name) ≡ false)
        → (ps : List Part) → list_all (is_part_known variables known) ps ≡ true → list_any test (words_behind_parts variables ps) ≡ false
    no_word_behind none [] h = refl
    no_word_behind none (Byte b ∷ ps) h = no_word_behind none ps h
    no_word_behind none (Name name ∷ ps) h =
        let here = and_parts _ _ h in
        rw (list_any-append test (words_named variables name) (words_behind_parts variables ps))
        (or_from _ _ (none name here.0) (no_word_behind none ps here.1))
    no_word_behind none (Unclosed ∷ ps) h = no_word_behind none ps h

    -- no known text passes a test that none passes
    no_known_text : ((text : List ℕ) → is_text_known variables known text ≡ true → test text ≡ false)
        → (texts : List (List ℕ)) → are_texts_known variables known texts ≡ true → list_any test texts ≡ false
    no_known_text none [] h = refl
    no_known_text none (text ∷ texts) h =
        let here = and_parts _ _ h in
        or_from _ _ (none text here.0) (no_known_text none texts here.1)

  module _ (order : List ℕ) (ordered : IsOrder variables order) where
    -- behind a text that is known by the first ones of an order, no chain is longer than these are many
    pub no_chain : (bound count : ℕ) → count ≤ bound → (text : List ℕ) → is_text_known variables (take count order) text ≡ true
        → has_chain variables (suc count) text ≡ false
    no_chain zero count b text h = no_word_behind (take count order) (has_chain variables count) (λ name known. by name known (index_of variables name) refl) (parts text) h
      where
        by : (name : List ℕ) → is_part_known variables (take count order) (Name name) ≡ true → (found : Option ℕ) → index_of variables name ≡ found
            → list_any (has_chain variables count) (words_named variables name) ≡ false
        by name known None f = rw (words_named-from_none variables name f) refl
        by name known (Some index) f =
            let there = index-among_first order count index (rw (f, is_part_known) at known) in
            absurd (omega (arith, there.1))
    no_chain (suc bound) count b text h =
        no_word_behind (take count order) (has_chain variables count) (λ name known. by (no_chain bound) name known (index_of variables name) refl) (parts text) h
      where
        by : ((count : ℕ) → count ≤ bound → (text : List ℕ) → is_text_known variables (take count order) text ≡ true → has_chain variables (suc count) text ≡ false)
            → (name : List ℕ) → is_part_known variables (take count order) (Name name) ≡ true → (found : Option ℕ) → index_of variables name ≡ found
            → list_any (has_chain variables count) (words_named variables name) ≡ false
        by rest name known None f = rw (words_named-from_none variables name f) refl
        by rest name known (Some index) f =
            let there = index-among_first order count index (rw (f, is_part_known) at known) in
            let before : there.0 < count = there.1 in
            rw (words_named-from_some variables name index f)
            (no_known_text (take there.0 order) (has_chain variables count)
            (λ word w. no_longer_chain (suc there.0) count (omega arith) word (rest there.0 (omega arith) word w))
            (words_at variables index) (ordered there.0 index there.2))

    -- a text that is known by an order leads to no cycle
    pub no_cycle : length order ≤ length variables → (text : List ℕ) → is_text_known variables order text ≡ true → leads_to_cycle variables text ≡ false
    no_cycle few text h =
        no_longer_chain (suc (length order)) (suc (length variables)) (omega arith) text
        (no_chain (length order) (length order) (omega arith) text (rw (take-length order) h))

    -- nor do the words of a variable that is in it
    pub no_cycle-at : length order ≤ length variables → (index : ℕ) → list_any (nat_eq index) order ≡ true
        → list_any (has_chain variables (length variables)) (words_at variables index) ≡ false
    no_cycle-at few index h =
        let there = index-among_first order (length order) index (rw (take-length order) h) in
        let before : there.0 < length order = there.1 in
        no_known_text (take there.0 order) (has_chain variables (length variables))
        (λ word w. no_longer_chain (suc there.0) (length variables) (omega arith) word (no_chain there.0 there.0 (omega arith) word w))
        (words_at variables index) (ordered there.0 index there.2)
