-- What an order of variables says of their values and of chains.
use Rattle.std.proofs.Common.{◌≡◌, ℕ, zero, suc, ◌<◌, ◌≤◌, true, List, [], ◌∷◌, length, take, arith, refl, sym, ◌∙◌}
use Rattle.std.specs.Prelude.{Option, None, Some, slice_get, flat_map}
use Rattle.std.specs.List.{list_all}
use Rattle.std.proofs.lemmas.Bool.{and_parts}
use Rattle.std.proofs.lemmas.Option.{slice_get_within}
use Rattle.aa_text_expansion.specs.Choices.{choices}
use Rattle.aa_text_expansion.specs.Parts.{Byte, Name, Part, Unclosed, parts}
use Rattle.aa_text_variables.proofs.ListLemmas.{index-among_first}
use Rattle.aa_text_variables.proofs.IndexLemmas.{values_within-from_none, words_named-from_some}
use Rattle.aa_text_variables.specs.code.ExpansionOrder.{IsOrder, are_texts_known, is_part_known}
use Rattle.aa_text_variables.specs.Expansions.{expansions, values, values_within}
use Rattle.aa_text_variables.specs.code.VariableIndexes.{index_of, words_at}
use Rattle.aa_text_variables.specs.Variables.{Variable}

module _ (variables : List Variable) (known : List ℕ) (f g : List ℕ → List (List ℕ))
    (same : (name : List ℕ) → is_part_known variables known (Name name) ≡ true → f name ≡ g name) where
  -- the values of the names that are known decide the choices
  choices-same : (ps : List Part) → list_all (is_part_known variables known) ps ≡ true → choices f ps ≡ choices g ps
  choices-same [] h = refl
  choices-same (Byte b ∷ ps) h = rw (choices-same ps h) refl
  choices-same (Name name ∷ ps) h =
      let here = and_parts _ _ h in
      rw (choices-same ps here.1, same name here.0) refl
  choices-same (Unclosed ∷ ps) h = refl

  -- and those of words
  flat_map-same : (words : List (List ℕ)) → are_texts_known variables known words ≡ true
      → flat_map (λ word. choices f (parts word)) words ≡ flat_map (λ word. choices g (parts word)) words
  flat_map-same [] h = refl
  flat_map-same (word ∷ words) h =
      let here = and_parts _ _ h in
      rw (choices-same (parts word) here.0, flat_map-same words here.1) refl

module _ (variables : List Variable) (order : List ℕ) (ordered : IsOrder variables order) where
  -- of a name that is known by the first ones of an order, depth beyond them plays no part
  name-depth : (bound count d e : ℕ) → count ≤ bound → count ≤ d → count ≤ e → (name : List ℕ)
      → is_part_known variables (take count order) (Name name) ≡ true → values_within variables d name ≡ values_within variables e name
  name-depth zero count d e b hd he name h = by (index_of variables name) refl
    where
      by : (found : Option ℕ) → index_of variables name ≡ found → values_within variables d name ≡ values_within variables e name
      by None f = values_within-from_none variables d name f ∙ sym (values_within-from_none variables e name f)
      by (Some index) f =
          let there = index-among_first order count index (rw (f, is_part_known) at h) in
          absurd (omega (arith, there.1))
  name-depth (suc bound) count d e b hd he name h = by (index_of variables name) refl d e hd he (name-depth bound)
    where
      by : (found : Option ℕ) → index_of variables name ≡ found → (d e : ℕ) → count ≤ d → count ≤ e
          → ((count d e : ℕ) → count ≤ bound → count ≤ d → count ≤ e → (name : List ℕ)
          → is_part_known variables (take count order) (Name name) ≡ true → values_within variables d name ≡ values_within variables e name)
          → values_within variables d name ≡ values_within variables e name
      by None f d e hd he rest = values_within-from_none variables d name f ∙ sym (values_within-from_none variables e name f)
      by (Some index) f zero e hd he rest =
          let there = index-among_first order count index (rw (f, is_part_known) at h) in
          absurd (omega (arith, there.1))
      by (Some index) f (suc d) zero hd he rest =
          let there = index-among_first order count index (rw (f, is_part_known) at h) in
          absurd (omega (arith, there.1))
      by (Some index) f (suc d) (suc e) hd he rest =
          let there = index-among_first order count index (rw (f, is_part_known) at h) in
          let before : there.0 < count = there.1 in
          rw (words_named-from_some variables name index f)
          (flat_map-same variables (take there.0 order) (values_within variables d) (values_within variables e)
          (rest there.0 d e (omega arith) (omega arith) (omega arith)) (words_at variables index) (ordered there.0 index there.2))

  -- the values of a name in the order, by the words at its index
  values-at : (depth at index : ℕ) → at < depth → slice_get order at ≡ Some index → (name : List ℕ) → index_of variables name ≡ Some index
      → (e : ℕ) → at ≤ e → values_within variables depth name ≡ flat_map (λ word. choices (values_within variables e) (parts word)) (words_at variables index)
  values-at zero at index within h name p e he = absurd (omega arith)
  values-at (suc depth) at index within h name p e he =
      rw (words_named-from_some variables name index p)
      (flat_map-same variables (take at order) (values_within variables depth) (values_within variables e)
      (name-depth at at depth e (omega arith) (omega arith) he) (words_at variables index) (ordered at index h))

-- The values of a variable in an order are the expansions of its words.
pub values-settled : (variables : List Variable) (order : List ℕ) → IsOrder variables order → length order ≤ length variables
    → (at index : ℕ) → slice_get order at ≡ Some index → (name : List ℕ) → index_of variables name ≡ Some index
    → values variables name ≡ flat_map (expansions variables) (words_at variables index)
values-settled variables order ordered few at index h name p =
    let within : at < length order = slice_get_within order at index h in
    values-at variables order ordered (length variables) at index (omega arith) h name p (length variables) (omega arith)
