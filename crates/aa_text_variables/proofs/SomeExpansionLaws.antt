-- Where each variable has a word, a text that isn't refused has an expansion.
use Rattle.std.proofs.Common.{◌≡◌, ℕ, Bool, true, false, not, ◌+◌, ◌<◌, List, [], ◌∷◌, ◌++◌, zero, suc, length, arith, length-append, refl, sym, ap}
use Rattle.std.specs.Prelude.{None, Some, flat_map}
use Rattle.std.specs.List.{list_all, list_any}
use Rattle.std.specs.Str.{bytes_eq}
use Rattle.std.proofs.lemmas.Bool.{and_parts, or_parts, or_right}
use Rattle.std.proofs.lemmas.Nat.{mul-lt}
use Rattle.std.proofs.lemmas.Slice.Eq.{bytes_eq-Decides}
use Rattle.aa_bytes.specs.Texts.{is_empty}
use Rattle.aa_text_expansion.specs.Choices.{choice_count, choices}
use Rattle.aa_text_expansion.specs.Parts.{Part, Byte, Name, Unclosed, parts}
use Rattle.aa_text_files.specs.declared.text_error.TextRefusal.TheVariants.{Undefined, Cycle}
use Rattle.aa_text_variables.specs.ExpansionLaws.{is_name}
use Rattle.aa_text_variables.specs.Expansions.{expansion_refusal, expansions, has_chain, leads_to_cycle, leads_to_undefined, leads_to_undefined_within, values_within, words_behind, words_named}
use Rattle.aa_text_variables.specs.Variables.{Variable, are_variables, has_word, have_distinct_names, is_defined, is_undefined, names_undefined}
use Rattle.aa_text_variables.proofs.ExpansionLaws.{all-none, choices-count, words-of_named}

-- a name among parts of which none is undefined is defined
defined-named : (variables : List Variable) (ps : List Part) (name : List ℕ) → list_any (is_undefined variables) ps ≡ false → list_any (is_name name) ps ≡ true
    → is_defined name variables ≡ true
defined-named variables [] name h k = absurd cc
defined-named variables (Byte b ∷ ps) name h k = defined-named variables ps name h k
defined-named variables (Name other ∷ ps) name h k =
    let here = or_parts _ _ h in
    by (bytes_eq name other) refl here.0 (defined-named variables ps name here.1)
  where
    by : (b : Bool) → bytes_eq name other ≡ b → not (is_defined other variables) ≡ false → (list_any (is_name name) ps ≡ true → is_defined name variables ≡ true)
        → is_defined name variables ≡ true
    by true b there rest =
        let same : name ≡ other = (bytes_eq-Decides name other).0 b in
        rw same (from_not_false (is_defined other variables) there)
      where
        from_not_false : (t : Bool) → not t ≡ false → t ≡ true
        from_not_false true h = refl
        from_not_false false h = sym h
    by false b there rest = rest (rw b at k)
defined-named variables (Unclosed ∷ ps) name h k = absurd cc

-- a list that isn't empty, with others behind it
some-first : (words more : List (List ℕ)) → not (is_empty words) ≡ true → 0 < length (words ++ more)
some-first [] more h = absurd cc
some-first (word ∷ words) more h = omega arith

-- a name that is defined has words
some-words_named : (variables : List Variable) (name : List ℕ) → list_all has_word variables ≡ true → is_defined name variables ≡ true → 0 < length (words_named variables name)
some-words_named [] name h k = absurd cc
some-words_named (v ∷ vs) name h k =
    let here = and_parts _ _ h in
    by (bytes_eq name v.name) refl here.0 k (some-words_named vs name here.1)
  where
    by : (b : Bool) → bytes_eq name v.name ≡ b → has_word v ≡ true → is_defined name (v ∷ vs) ≡ true → (is_defined name vs ≡ true → 0 < length (words_named vs name))
        → 0 < length (words_named (v ∷ vs) name)
    by true b word k rest = rw (b, words_named) (some-first v.defined v.added word)
    by false b word k rest = rw (b, words_named) (rest (rw b at k))

-- where each name has a value and is closed, there are choices
some-choices : (counts : List ℕ → ℕ) (variables : List Variable) (ps : List Part) → list_any (is_undefined variables) ps ≡ false
    → ((name : List ℕ) → list_any (is_name name) ps ≡ true → 0 < counts name) → 0 < choice_count counts ps
some-choices counts variables [] h some = omega arith
some-choices counts variables (Byte b ∷ ps) h some = some-choices counts variables ps h some
some-choices counts variables (Name name ∷ ps) h some =
    let here : 0 < counts name = some name (rw ((bytes_eq-Decides name name).1 refl) refl) in
    let rest : 0 < choice_count counts ps = some-choices counts variables ps (or_parts _ _ h).1 (λ other named. some other (or_right (bytes_eq other name) (list_any (is_name other) ps) named)) in
    mul-lt 0 0 (counts name) (choice_count counts ps) here rest
some-choices counts variables (Unclosed ∷ ps) h some = absurd cc

-- words of which each that fails two tests has an expansion
some-of_words : (expanded : List ℕ → List (List ℕ)) (test other : List ℕ → Bool) → ((word : List ℕ) → test word ≡ false → other word ≡ false → 0 < length (expanded word))
    → (words : List (List ℕ)) → list_any test words ≡ false → list_any other words ≡ false → 0 < length words → 0 < length (flat_map expanded words)
some-of_words expanded test other some [] h k l = absurd (omega arith)
some-of_words expanded test other some (word ∷ words) h k l =
    let here : 0 < length (expanded word) = some word (or_parts _ _ h).0 (or_parts _ _ k).0 in
    let both : length (expanded word ++ flat_map expanded words) ≡ length (expanded word) + length (flat_map expanded words) = length-append (expanded word) (flat_map expanded words) in
    omega arith

module _ (variables : List Variable) (have : list_all has_word variables ≡ true) where
  -- a text that leads to nothing undefined and to no long chain has an expansion
  some-within : (depth : ℕ) (text : List ℕ) → leads_to_undefined_within variables depth text ≡ false → has_chain variables (suc depth) text ≡ false
      → 0 < length (choices (values_within variables depth) (parts text))
  some-within zero text h k =
      rw (choices-count (values_within variables zero) (parts text))
      (some-choices (λ name. length (values_within variables zero name)) variables (parts text) h
      (λ name named.
      let some : 0 < length (words_named variables name) = some-words_named variables name have (defined-named variables (parts text) name h named) in
      let none : words_named variables name ≡ [] = all-none (words_named variables name) (words-of_named variables (has_chain variables zero) (parts text) name k named) in
      let empty : length (words_named variables name) ≡ 0 = ap length none in
      absurd (omega arith)))
  some-within (suc depth) text h k =
      let here = or_parts (names_undefined variables text) (list_any (leads_to_undefined_within variables depth) (words_behind variables text)) h in
      rw (choices-count (values_within variables (suc depth)) (parts text))
      (some-choices (λ name. length (values_within variables (suc depth) name)) variables (parts text) here.0
      (λ name named.
      some-of_words (λ word. choices (values_within variables depth) (parts word)) (leads_to_undefined_within variables depth) (has_chain variables (suc depth))
      (some-within depth) (words_named variables name)
      (words-of_named variables (leads_to_undefined_within variables depth) (parts text) name here.1 named)
      (words-of_named variables (has_chain variables (suc depth)) (parts text) name k named)
      (some-words_named variables name have (defined-named variables (parts text) name here.0 named))))

-- a text that isn't refused leads to nothing undefined and to no cycle
not_refused : (variables : List Variable) (text : List ℕ) → expansion_refusal variables text ≡ None
    → (leads_to_undefined variables text ≡ false) × (leads_to_cycle variables text ≡ false)
not_refused variables text h = by (leads_to_undefined variables text) refl (leads_to_cycle variables text) refl
  where
    by : (b : Bool) → leads_to_undefined variables text ≡ b → (c : Bool) → leads_to_cycle variables text ≡ c
        → (b ≡ false) × (c ≡ false)
    by true b c e = let there : Some Undefined ≡ None = rw (b, expansion_refusal) at h in absurd cc
    by false b true e = let there : Some Cycle ≡ None = rw (b, e, expansion_refusal) at h in absurd cc
    by false b false e = (refl, refl)

-- it has an expansion
pub some-expansion : (variables : List Variable) (text : List ℕ) → are_variables variables ≡ true → expansion_refusal variables text ≡ None
    → 0 < length (expansions variables text)
some-expansion variables text h k =
    let have = and_parts (have_distinct_names variables) (list_all has_word variables) h in
    let fine = not_refused variables text k in
    some-within variables have.1 (length variables) text fine.0 fine.1
