-- What texts lead to, where the words of variables do not.
use Rattle.std.proofs.Common.{◌≡◌, ℕ, Bool, true, false, List, [], ◌∷◌, zero, suc, length, refl}
use Rattle.std.specs.Prelude.{None, Some, find, flat_map}
use Rattle.std.specs.List.{list_any}
use Rattle.std.specs.Str.{bytes_eq}
use Rattle.std.proofs.lemmas.Bool.{or_from, or_parts}
use Rattle.aa_text_expansion.specs.Parts.{Part, Byte, Name, Unclosed, parts}
use Rattle.aa_text_variables.specs.Variables.{Variable, names_undefined}
use Rattle.aa_text_variables.specs.Expansions.{has_chain, is_cyclic, leads_to_undefined_within, words_behind, words_behind_parts, words_named, words_of}
use Rattle.aa_text_variables.proofs.TestLemmas.{any-neither, any-neither_left, any-neither_right}

module _ {X : Type 0} (test : X → Bool) where
  -- where what fails the test fails another too, and none passes, none passes the other
  none-other : (other : X → Bool) → ((x : X) → test x ≡ false → other x ≡ false) → (xs : List X) → list_any test xs ≡ false → list_any other xs ≡ false
  none-other other f [] h = refl
  none-other other f (x ∷ xs) h =
      or_from (other x) (list_any other xs) (f x (or_parts (test x) (list_any test xs) h).0) (none-other other f xs (or_parts (test x) (list_any test xs) h).1)

-- where no word of a variable passes a test, no word of a name's variable does
pub words_named-none : (test : List ℕ → Bool) (variables : List Variable) (name : List ℕ) → list_any test (flat_map words_of variables) ≡ false
    → list_any test (words_named variables name) ≡ false
words_named-none test [] name h = refl
words_named-none test (v ∷ vs) name h = by (bytes_eq name v.name) refl (words_named-none test vs name (any-neither_right test (words_of v) (flat_map words_of vs) h))
  where
    by : (b : Bool) → bytes_eq name v.name ≡ b → list_any test (words_named vs name) ≡ false → list_any test (words_named (v ∷ vs) name) ≡ false
    by true e rest = rw (e, words_named) (any-neither_left test (words_of v) (flat_map words_of vs) h)
    by false e rest = rw (e, words_named) rest

-- nor does a word behind the parts of a text
words_behind_parts-none : (test : List ℕ → Bool) (variables : List Variable) (ps : List Part) → list_any test (flat_map words_of variables) ≡ false
    → list_any test (words_behind_parts variables ps) ≡ false
words_behind_parts-none test variables [] h = refl
words_behind_parts-none test variables (Byte b ∷ ps) h = words_behind_parts-none test variables ps h
words_behind_parts-none test variables (Name name ∷ ps) h =
    any-neither test (words_named variables name) (words_behind_parts variables ps) (words_named-none test variables name h) (words_behind_parts-none test variables ps h)
words_behind_parts-none test variables (Unclosed ∷ ps) h = words_behind_parts-none test variables ps h

-- nor does a word behind a text
pub words_behind-none : (test : List ℕ → Bool) (variables : List Variable) (text : List ℕ) → list_any test (flat_map words_of variables) ≡ false
    → list_any test (words_behind variables text) ≡ false
words_behind-none test variables text h = words_behind_parts-none test variables (parts text) h

-- where no word of a variable names an undefined one, a text leads to one only if it names one
pub leads-defined : (variables : List Variable) (depth : ℕ) (text : List ℕ) → list_any (names_undefined variables) (flat_map words_of variables) ≡ false
    → names_undefined variables text ≡ false → leads_to_undefined_within variables depth text ≡ false
leads-defined variables zero text h k = k
leads-defined variables (suc depth) text h k =
    or_from (names_undefined variables text) (list_any (leads_to_undefined_within variables depth) (words_behind variables text)) k
    (words_behind-none (leads_to_undefined_within variables depth) variables text
    (none-other (names_undefined variables) (leads_to_undefined_within variables depth) (λ word fine. leads-defined variables depth word h fine) (flat_map words_of variables) h))

-- where no variable is found that leads to itself, no word of one begins so long a chain
pub no_chains : (variables : List Variable) (vs : List Variable) → find (is_cyclic variables) vs ≡ None
    → list_any (has_chain variables (length variables)) (flat_map words_of vs) ≡ false
no_chains variables [] h = refl
no_chains variables (v ∷ vs) h = by (is_cyclic variables v) refl (no_chains variables vs)
  where
    by : (b : Bool) → is_cyclic variables v ≡ b → (find (is_cyclic variables) vs ≡ None → list_any (has_chain variables (length variables)) (flat_map words_of vs) ≡ false)
        → list_any (has_chain variables (length variables)) (flat_map words_of (v ∷ vs)) ≡ false
    by true e rest = let there : Some v ≡ None = rw e at h in absurd cc
    by false e rest = let there : find (is_cyclic variables) vs ≡ None = rw e at h in
        any-neither (has_chain variables (length variables)) (words_of v) (flat_map words_of vs) e (rest there)
