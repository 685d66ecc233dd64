-- What `=` and `+=` make of variables: no name comes twice, and each variable has a word.
use Rattle.std.proofs.Common.{◌≡◌, ℕ, Bool, true, false, not, ◌<◌, List, [], ◌∷◌, ◌++◌, length, arith, refl, sym}
use Rattle.std.specs.Prelude.{None, Ok}
use Rattle.std.specs.List.{list_all}
use Rattle.std.specs.Str.{bytes_eq}
use Rattle.std.proofs.lemmas.Bool.{and_parts}
use Rattle.std.proofs.lemmas.List.Folds.{list_all-append}
use Rattle.std.proofs.lemmas.Slice.Eq.{bytes_eq-Decides}
use Rattle.aa_bytes.specs.Texts.{is_empty}
use Rattle.aa_text_variables.specs.Variables.{Variable, after_append, are_variables, has_word, have_distinct_names, is_defined, named, with_added}

-- what fails where its opposite holds
pub from_not : (b : Bool) → not b ≡ true → b ≡ false
from_not true h = sym h
from_not false h = refl

-- a name that isn't another: nor is the other it
pub names-apart : (name other : List ℕ) → bytes_eq name other ≡ false → bytes_eq other name ≡ false
names-apart name other h = by (bytes_eq other name) refl
  where
    by : (b : Bool) → bytes_eq other name ≡ b → b ≡ false
    by true b =
        let same : other ≡ name = (bytes_eq-Decides other name).0 b in
        let wrong : bytes_eq name other ≡ true = (bytes_eq-Decides name other).1 (sym same) in
        absurd (cc)
    by false b = refl

-- a name that none of some variables has: the first hasn't it, nor have the others
undefined-parts : (name : List ℕ) (v : Variable) (vs : List Variable) → is_defined name (v ∷ vs) ≡ false → (bytes_eq name v.name ≡ false) × (is_defined name vs ≡ false)
undefined-parts name v vs h = by (bytes_eq name v.name) refl
  where
    by : (b : Bool) → bytes_eq name v.name ≡ b → (b ≡ false) × (is_defined name vs ≡ false)
    by true b = let there : true ≡ false = rw b at h in absurd (cc)
    by false b = (refl, rw b at h)

-- nor has one more that is named otherwise
undefined-push : (name : List ℕ) (vs : List Variable) (more : Variable) → is_defined name vs ≡ false → bytes_eq name more.name ≡ false → is_defined name (vs ++ more ∷ []) ≡ false
undefined-push name [] more h k = rw k refl
undefined-push name (v ∷ vs) more h k =
    let here = undefined-parts name v vs h in
    rw here.0 (undefined-push name vs more here.1 k)

-- distinct names with a new one behind them
distinct-push : (vs : List Variable) (more : Variable) → have_distinct_names vs ≡ true → is_defined more.name vs ≡ false → have_distinct_names (vs ++ more ∷ []) ≡ true
distinct-push [] more h k = refl
distinct-push (v ∷ vs) more h k =
    let here = and_parts _ _ h in
    let apart = undefined-parts more.name v vs k in
    let first : is_defined v.name (vs ++ more ∷ []) ≡ false = undefined-push v.name vs more (from_not _ here.0) (names-apart more.name v.name apart.0) in
    rw first (distinct-push vs more here.1 apart.1)

-- words that aren't none
some-words : (words : List (List ℕ)) → 0 < length words → not (is_empty words) ≡ true
some-words [] h = absurd (omega arith)
some-words (word ∷ words) h = refl

-- `=` on a variable that isn't there
pub are_variables-push : (vs : List Variable) (name : List ℕ) (words : List (List ℕ)) → are_variables vs ≡ true → named name vs ≡ None → 0 < length words
    → are_variables (vs ++ record { name = name; defined = words; added = [] } ∷ []) ≡ true
are_variables-push vs name words h none some =
    let here = and_parts _ _ h in
    let more : Variable = record { name = name; defined = words; added = [] } in
    let absent : is_defined name vs ≡ false = rw none refl in
    rw (distinct-push vs more here.0 absent, list_all-append has_word vs (more ∷ []), here.1, some-words words some) refl

module _ (name : List ℕ) (words : List (List ℕ)) where
  -- `+=` changes no names
  defined-with_added : (other : List ℕ) (vs : List Variable) → is_defined other (with_added name words vs) ≡ is_defined other vs
  defined-with_added other [] = refl
  defined-with_added other (v ∷ vs) = by (bytes_eq name v.name) refl (bytes_eq other v.name) refl (defined-with_added other vs)
    where
      by : (b : Bool) → bytes_eq name v.name ≡ b → (c : Bool) → bytes_eq other v.name ≡ c → is_defined other (with_added name words vs) ≡ is_defined other vs
          → is_defined other (with_added name words (v ∷ vs)) ≡ is_defined other (v ∷ vs)
      by true b true c rest = rw (b, c) refl
      by true b false c rest = rw (b, c) refl
      by false b true c rest = rw (b, c) refl
      by false b false c rest = rw (b, c) rest

  distinct-with_added : (vs : List Variable) → have_distinct_names (with_added name words vs) ≡ have_distinct_names vs
  distinct-with_added [] = refl
  distinct-with_added (v ∷ vs) = by (bytes_eq name v.name) refl (distinct-with_added vs)
    where
      by : (b : Bool) → bytes_eq name v.name ≡ b → have_distinct_names (with_added name words vs) ≡ have_distinct_names vs
          → have_distinct_names (with_added name words (v ∷ vs)) ≡ have_distinct_names (v ∷ vs)
      by true b rest = rw b refl
      by false b rest = rw (b, have_distinct_names, defined-with_added v.name vs, rest) refl

  -- and takes no words away
  words-with_added : (vs : List Variable) → list_all has_word (with_added name words vs) ≡ list_all has_word vs
  words-with_added [] = refl
  words-with_added (v ∷ vs) = by (bytes_eq name v.name) refl (words-with_added vs)
    where
      by : (b : Bool) → bytes_eq name v.name ≡ b → list_all has_word (with_added name words vs) ≡ list_all has_word vs
          → list_all has_word (with_added name words (v ∷ vs)) ≡ list_all has_word (v ∷ vs)
      by true b rest = rw b refl
      by false b rest = rw (b, list_all, rest) refl

  -- `+=` on a variable that is there
  pub are_variables-added : (vs after : List Variable) → are_variables vs ≡ true → after_append vs name words ≡ Ok after → are_variables after ≡ true
  are_variables-added vs after h done = by (is_defined name vs) refl
    where
      by : (b : Bool) → is_defined name vs ≡ b → are_variables after ≡ true
      by true b =
          let there : ◌≡◌ {A = _} (Ok (with_added name words vs)) (Ok after) = rw b at done in
          let same : after ≡ with_added name words vs = cc in
          rw (same, are_variables, distinct-with_added vs, words-with_added vs) h
      by false b = absurd (let there = rw b at done in cc)
