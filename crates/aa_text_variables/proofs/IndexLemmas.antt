-- A name's variable by its index.
use Rattle.std.proofs.Common.{◌≡◌, ℕ, Bool, true, false, List, [], ◌∷◌, ◌<◌, suc, zero, length, arith, refl, sym, ap}
use Rattle.std.specs.Prelude.{IfSome, Option, None, Some, flat_map}
use Rattle.std.specs.Str.{bytes_eq}
use Rattle.aa_text_expansion.specs.Choices.{choices}
use Rattle.aa_text_expansion.specs.Parts.{parts}
use Rattle.aa_text_variables.specs.Variables.{Variable, named}
use Rattle.aa_text_variables.specs.Expansions.{values_within, words_named}
use Rattle.aa_text_variables.specs.code.VariableIndexes.{index_of, words_at}

-- a name that has no index names no variable
pub named-from_none : (variables : List Variable) (name : List ℕ) → index_of variables name ≡ None → named name variables ≡ None
named-from_none [] name h = refl
named-from_none (v ∷ vs) name h = by (bytes_eq name v.name) refl (index_of vs name) refl h (named-from_none vs name)
  where
    by : (b : Bool) → bytes_eq name v.name ≡ b → (found : Option ℕ) → index_of vs name ≡ found → index_of (v ∷ vs) name ≡ None
        → (index_of vs name ≡ None → named name vs ≡ None) → named name (v ∷ vs) ≡ None
    by true b found e h rest = let there : ◌≡◌ {A = Option ℕ} (Some 0) None = rw b at h in cc
    by false b None e h rest = rw b (rest e)
    by false b (Some index) e h rest = let there : ◌≡◌ {A = Option ℕ} (Some (suc index)) None = rw (b, e) at h in cc

-- the words of a name that has no index
pub words_named-from_none : (variables : List Variable) (name : List ℕ) → index_of variables name ≡ None → words_named variables name ≡ []
words_named-from_none variables name h = rw (named-from_none variables name h, words_named) refl

-- a name without words has no values
pub values_within-no_words : (variables : List Variable) (depth : ℕ) (name : List ℕ) → words_named variables name ≡ [] → values_within variables depth name ≡ []
values_within-no_words variables zero name h = refl
values_within-no_words variables (suc depth) name h = ap (flat_map (λ word. choices (values_within variables depth) (parts word))) h

-- a name that has no index has none either
pub values_within-from_none : (variables : List Variable) (depth : ℕ) (name : List ℕ) → index_of variables name ≡ None → values_within variables depth name ≡ []
values_within-from_none variables depth name h = values_within-no_words variables depth name (words_named-from_none variables name h)

-- the words of a name are those at its index
pub words_named-from_some : (variables : List Variable) (name : List ℕ) (index : ℕ) → index_of variables name ≡ Some index
    → words_named variables name ≡ words_at variables index
words_named-from_some [] name index h = absurd cc
words_named-from_some (v ∷ vs) name index h = by (bytes_eq name v.name) refl (index_of vs name) refl h (words_named-from_some vs name)
  where
    by : (b : Bool) → bytes_eq name v.name ≡ b → (found : Option ℕ) → index_of vs name ≡ found → index_of (v ∷ vs) name ≡ Some index
        → ((inner : ℕ) → index_of vs name ≡ Some inner → words_named vs name ≡ words_at vs inner) → words_named (v ∷ vs) name ≡ words_at (v ∷ vs) index
    by true b found e h rest =
        let there : Some 0 ≡ Some index = rw b at h in
        let same : index ≡ 0 = cc in
        rw (b, same, words_named) refl
    by false b None e h rest = let there : None ≡ Some index = rw (b, e) at h in absurd cc
    by false b (Some inner) e h rest =
        let there : Some (suc inner) ≡ Some index = rw (b, e) at h in
        let same : index ≡ suc inner = cc in
        rw (b, same, words_named) (rest inner e)

-- a name's index is below the number of variables
pub index_of-within : (variables : List Variable) (name : List ℕ) (index : ℕ) → index_of variables name ≡ Some index → index < length variables
index_of-within [] name index h = absurd cc
index_of-within (v ∷ vs) name index h = by (bytes_eq name v.name) refl (index_of vs name) refl h (index_of-within vs name)
  where
    by : (b : Bool) → bytes_eq name v.name ≡ b → (found : Option ℕ) → index_of vs name ≡ found → index_of (v ∷ vs) name ≡ Some index
        → ((inner : ℕ) → index_of vs name ≡ Some inner → inner < length vs) → index < length (v ∷ vs)
    by true b found e h rest =
        let there : Some 0 ≡ Some index = rw b at h in
        let same : index ≡ 0 = cc in
        omega arith
    by false b None e h rest = let there : None ≡ Some index = rw (b, e) at h in absurd cc
    by false b (Some inner) e h rest =
        let there : Some (suc inner) ≡ Some index = rw (b, e) at h in
        let same : index ≡ suc inner = cc in
        let within : inner < length vs = rest inner e in
        omega arith

pub index-within : (variables : List Variable) (name : List ℕ) (found : Option ℕ) → found ≡ index_of variables name → IfSome found (λ index. index < length variables)
index-within variables name None e = tt
index-within variables name (Some index) e = index_of-within variables name index (sym e)
