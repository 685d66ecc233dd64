-- What is looked up in a table that stands beside an order of variables.
use Rattle.std.proofs.Common.{◌≡◌, ℕ, zero, suc, ◌+◌, ◌<◌, Bool, true, false, List, [], ◌∷◌, ◌++◌, map, length, get_or, take, arith, refl, sym, ap, subst, ◌∙◌}
use Rattle.std.specs.Prelude.{Option, None, Some, nat_eq, nat_lt, option_map, position, slice_get}
use Rattle.std.specs.List.{list_all, list_any, position_or_len}
use Rattle.std.proofs.lemmas.Bool.{and_parts}
use Rattle.std.proofs.lemmas.Bool.Decides.{nat_tests}
use Rattle.std.proofs.lemmas.List.{map-append, take_all, take_more}
use Rattle.aa_text_expansion.specs.Names.{EachName, EachNameIn, EachNameWithin}
use Rattle.aa_text_expansion.specs.Parts.{Part, Byte, Name, Unclosed, parts}
use Rattle.aa_text_variables.specs.Variables.{Variable}
use Rattle.aa_text_variables.specs.code.ExpansionOrder.{are_texts_known, is_part_known, is_text_known}
use Rattle.aa_text_variables.specs.code.ExpansionTables.{looked_up, row_of, row_or, values_at}
use Rattle.aa_text_variables.specs.Expansions.{values}
use Rattle.aa_text_variables.specs.code.VariableIndexes.{index_of}
use Rattle.aa_text_variables.proofs.ListLemmas.{index-among_first}
use Rattle.aa_text_variables.proofs.IndexLemmas.{values_within-from_none}
use Rattle.aa_text_variables.proofs.VariableLemmas.{shifted}

-- the row of an index that stands among the first of an order
pub row-known : {A : Type 0} (other : A) (value : ℕ → A) (index : ℕ) (order : List ℕ) (size : ℕ)
    → list_any (nat_eq index) (take size order) ≡ true
    → row_or other (map value (take size order)) (position (nat_eq index) order) ≡ value index
row-known other value index [] zero h = absurd cc
row-known other value index [] (suc size) h = absurd cc
row-known other value index (p ∷ ps) zero h = absurd cc
row-known {A} other value index (p ∷ ps) (suc size) h = by (nat_eq index p) refl h (row-known other value index ps size)
  where
    next : (row : Option ℕ) → row_or other (value p ∷ map value (take size ps)) (option_map suc row) ≡ row_or other (map value (take size ps)) row
    next None = refl
    next (Some row) = refl

    by : (b : Bool) → nat_eq index p ≡ b → list_any (nat_eq index) (take (suc size) (p ∷ ps)) ≡ true
        → (list_any (nat_eq index) (take size ps) ≡ true → row_or other (map value (take size ps)) (position (nat_eq index) ps) ≡ value index)
        → row_or other (map value (take (suc size) (p ∷ ps))) (position (nat_eq index) (p ∷ ps)) ≡ value index
    by true b h rest =
        let first : nat_lt 0 (suc (length ps)) ≡ true = grind (arith, nat_tests) in
        let same : index ≡ p = grind (arith, nat_tests) in
        rw (b, first) (ap value (sym same))
    by false b h rest =
        let among : list_any (nat_eq index) (take size ps) ≡ true = rw b at h in
        rw b (ap (row_or other (value p ∷ map value (take size ps))) (shifted (position_or_len (nat_eq index) ps) (length ps)) ∙ next (position (nat_eq index) ps) ∙ rest among)

-- The values of each variable that an order has are the expansions of its words.
abbrev pub Settled : List Variable → List ℕ → Type 0
Settled variables order = (at index : ℕ) → slice_get order at ≡ Some index → (name : List ℕ) → index_of variables name ≡ Some index → values variables name ≡ values_at variables index

-- what a table that is filled so far has for a known name
pub name-known : {A : Type 0} (of : List (List ℕ) → A) (variables : List Variable) (order : List ℕ) (size : ℕ) → Settled variables order
    → (name : List ℕ) → is_part_known variables (take size order) (Name name) ≡ true
    → looked_up (of []) variables order (map (λ index. of (values_at variables index)) (take size order)) name ≡ of (values variables name)
name-known {A} of variables order size settled name h = by (index_of variables name) refl h
  where
    by : (index : Option ℕ) → index_of variables name ≡ index → is_part_known variables (take size order) (Name name) ≡ true
        → looked_up (of []) variables order (map (λ index. of (values_at variables index)) (take size order)) name ≡ of (values variables name)
    by None at h = rw (looked_up, row_of, at, values_within-from_none variables (length variables) name at) refl
    by (Some index) at h =
        let among : list_any (nat_eq index) (take size order) ≡ true = rw (at, is_part_known) at h in
        let found = index-among_first order size index among in
        rw (looked_up, row_of, at) (row-known (of []) (λ index. of (values_at variables index)) index order size among ∙ ap of (sym (settled found.0 index found.2 name at)))

-- a table with one row more
pub map-take-more : {A : Type 0} (value : ℕ → A) (order : List ℕ) (size : ℕ) → size < length order
    → map value (take size order) ++ value (get_or order size 0) ∷ [] ≡ map value (take (size + 1) order)
map-take-more value order size within =
    sym (map-append value (take size order) (get_or order size 0 ∷ [])) ∙ ap (map value) (sym (take_more order size 0 within))

module _ {A : Type 0} (of : List (List ℕ) → A) (variables : List Variable) (order : List ℕ) (size : ℕ) (settled : Settled variables order) where
  -- it has what it should for a name
  abbrev IsKnown : List ℕ → Type 0
  IsKnown name = looked_up (of []) variables order (map (λ index. of (values_at variables index)) (take size order)) name ≡ of (values variables name)

  -- for each name among known parts
  pub parts-filled : (ps : List Part) → list_all (is_part_known variables (take size order)) ps ≡ true → EachName IsKnown ps
  parts-filled [] h = tt
  parts-filled (Byte b ∷ ps) h = parts-filled ps (and_parts (is_part_known variables (take size order) (Byte b)) (list_all (is_part_known variables (take size order)) ps) h).1
  parts-filled (Unclosed ∷ ps) h = tt
  parts-filled (Name name ∷ ps) h =
      let both = and_parts (is_part_known variables (take size order) (Name name)) (list_all (is_part_known variables (take size order)) ps) h in
      (name-known of variables order size settled name both.0, parts-filled ps both.1)

  -- for each in known words
  pub words-filled : (words : List (List ℕ)) → are_texts_known variables (take size order) words ≡ true → EachNameWithin IsKnown words
  words-filled [] h = tt
  words-filled (word ∷ words) h =
      let both = and_parts (is_text_known variables (take size order) word) (are_texts_known variables (take size order) words) h in
      (parts-filled (parts word) both.0, words-filled words both.1)

-- a table that is filled has it for each name in a known text
pub text-filled : {A : Type 0} (of : List (List ℕ) → A) (variables : List Variable) (order : List ℕ) → Settled variables order → (text : List ℕ) (table : List A)
    → table ≡ map (λ index. of (values_at variables index)) order → is_text_known variables order text ≡ true
    → EachNameIn (λ name. looked_up (of []) variables order table name ≡ of (values variables name)) text
text-filled {A} of variables order settled text table t known =
    let all : take (length order) order ≡ order = take_all (length order) order (omega arith) in
    let here : is_text_known variables (take (length order) order) text ≡ true = rw all known in
    let same : map (λ index. of (values_at variables index)) (take (length order) order) ≡ table = ap (map (λ index. of (values_at variables index))) all ∙ sym t in
    subst (λ rows. EachNameIn (λ name. looked_up (of []) variables order rows name ≡ of (values variables name)) text) same
    (parts-filled of variables order (length order) settled (parts text) here)

-- what holds of each name in some words and in others
pub within-split : (IsSuch : List ℕ → Type 0) (words more : List (List ℕ)) → EachNameWithin IsSuch (words ++ more) → EachNameWithin IsSuch words × EachNameWithin IsSuch more
within-split IsSuch [] more each = (tt, each)
within-split IsSuch (word ∷ words) more each = let rest = within-split IsSuch words more each.1 in ((each.0, rest.0), rest.1)
