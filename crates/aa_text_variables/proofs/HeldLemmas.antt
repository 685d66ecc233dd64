-- What a table says of the texts for whose names it has lists, and what it keeps.
use Rattle.std.proofs.Common.{◌≡◌, ℕ, zero, suc, ◌<◌, ◌≤◌, Bool, true, false, not, nat_eq, List, [], ◌∷◌, ◌++◌, length, length-append, map, take, drop, arith, refl, sym, ap, subst, ◌∙◌, inl, inr}
use Rattle.std.specs.Prelude.{Option, None, Some, is_none, nat_lt, option_map, position, slice_get}
use Rattle.std.specs.List.{IsDistinct, list_all, list_any, position_or_len}
use Rattle.std.proofs.lemmas.Bool.{and_parts, or_from, or_parts}
use Rattle.std.proofs.lemmas.Bool.Decides.{nat_tests}
use Rattle.std.proofs.lemmas.List.{length-map, take-append-drop, take_all}
use Rattle.std.proofs.lemmas.Map.Keys.{any_passes_from_place}
use Rattle.std.proofs.lemmas.Option.{slice_get_cases, slice_get_within}
use Rattle.std.proofs.Math.Seq.{drop-append_seam, take-append_seam}
use Rattle.aa_text_variables.proofs.CycleLemmas.{refusal-none}
use Rattle.aa_text_variables.proofs.IndexLemmas.{values_within-from_none}
use Rattle.aa_text_variables.proofs.ListLemmas.{index-found, listed, slice_get-front, slice_get-push}
use Rattle.aa_text_variables.proofs.OrderLemmas.{values-settled}
use Rattle.aa_text_variables.proofs.ReachedLemmas.{leads-none}
use Rattle.aa_text_variables.proofs.TableLemmas.{Settled}
use Rattle.aa_text_variables.proofs.TestLemmas.{any-left, any-split, same-from_test}
use Rattle.aa_text_variables.proofs.VariableLemmas.{shifted}
use Rattle.aa_text_variables.proofs.WalkLemmas.{settled-few}
use Rattle.aa_text_expansion.specs.Choices.{choices_within}
use Rattle.aa_text_expansion.specs.Expanding.{AreCutOff, AreThere, Expands, ExpandsWords, held}
use Rattle.aa_text_expansion.specs.Joining.{cut_off}
use Rattle.aa_text_expansion.specs.Lists.{AreKept, list_at}
use Rattle.aa_text_expansion.specs.Missing.{is_missing}
use Rattle.aa_text_expansion.specs.Names.{EachName, EachNameIn, EachNameWithin}
use Rattle.aa_text_expansion.specs.Parts.{Byte, Name, Part, Unclosed, parts}
use Rattle.aa_text_variables.specs.Expansions.{expansion_refusal, expansions, values}
use Rattle.aa_text_variables.specs.Variables.{Variable, is_defined, is_undefined, names_undefined}
use Rattle.aa_text_variables.specs.code.Columns.{IsBeside, numbers_in}
use Rattle.aa_text_variables.specs.code.ExpansionOrder.{are_texts_known, is_part_known, is_text_known, IsOrder}
use Rattle.aa_text_variables.specs.code.ExpansionTables.{AreFirstCounts, AreListed, count_at, cut_off_at, number_of, row_of}
use Rattle.aa_text_variables.specs.code.HeldValues.{IsTable, is_text_lacking, names_undefined_at}
use Rattle.aa_text_variables.specs.code.VariableIndexes.{index_of, words_at}
use Rattle.aa_text_variables.specs.code.VariableWalks.{IsOrderOf}
use Rattle.aa_text_variables.specs.declared.variables.column.Column.{Column}
use Rattle.std.specs.Cmp.Derive.{both_true}
use Rattle.std.specs.Str.{bytes_eq}

-- where none of some numbers passes, one of them doesn't
none-at : (test : ℕ → Bool) (xs : List ℕ) (q : ℕ) → list_any test xs ≡ false → list_any (nat_eq q) xs ≡ true → test q ≡ false
none-at test xs q none has = by (test q) refl
  where
    by : (b : Bool) → test q ≡ b → test q ≡ false
    by true e =
        let found = index-found xs q has in
        let there : list_any test xs ≡ true = any_passes_from_place test xs found.0 q found.1 e in
        absurd (cc)
    by false e = e

-- all pass another test that is weaker
all-weaker : {X : Type 0} (test other : X → Bool) → ((x : X) → test x ≡ true → other x ≡ true) → (xs : List X) → list_all test xs ≡ true → list_all other xs ≡ true
all-weaker test other f [] h = refl
all-weaker test other f (x ∷ xs) h = let both = and_parts (test x) (list_all test xs) h in both_true (f x both.0) (all-weaker test other f xs both.1)

-- the number at the position of the first that equals it
position-some : (index : ℕ) (xs : List ℕ) (k : ℕ) → position (nat_eq index) xs ≡ Some k → slice_get xs k ≡ Some index
position-some index [] k h = absurd (cc)
position-some index (x ∷ xs) k h = by (nat_eq index x) refl h (position-some index xs)
  where
    more : (found : Option ℕ) → position (nat_eq index) xs ≡ found → option_map suc found ≡ Some k → ((k : ℕ) → position (nat_eq index) xs ≡ Some k → slice_get xs k ≡ Some index)
        → slice_get (x ∷ xs) k ≡ Some index
    more None e h rest = absurd (cc)
    more (Some j) e h rest = let same : suc j ≡ k = cc in subst (λ n. slice_get (x ∷ xs) n ≡ Some index) same (rest j e)

    by : (b : Bool) → nat_eq index x ≡ b → position (nat_eq index) (x ∷ xs) ≡ Some k → ((k : ℕ) → position (nat_eq index) xs ≡ Some k → slice_get xs k ≡ Some index)
        → slice_get (x ∷ xs) k ≡ Some index
    by true b h rest =
        let first : nat_lt 0 (suc (length xs)) ≡ true = grind (arith, nat_tests) in
        let here : Some 0 ≡ Some k = rw (b, first) at h in
        let same : 0 ≡ k = cc in
        subst (λ n. slice_get (x ∷ xs) n ≡ Some index) same (ap Some (sym (same-from_test index x b)))
    by false b h rest =
        let behind : option_map suc (position (nat_eq index) xs) ≡ Some k = sym (shifted (position_or_len (nat_eq index) xs) (length xs)) ∙ rw b at h in
        more (position (nat_eq index) xs) refl behind rest

-- a name with an index is that of a variable
index-defined : (variables : List Variable) (name : List ℕ) (index : ℕ) → index_of variables name ≡ Some index → is_defined name variables ≡ true
index-defined [] name index h = absurd (cc)
index-defined (variable ∷ variables) name index h = by (bytes_eq name variable.name) refl h (index-defined variables name)
  where
    by : (b : Bool) → bytes_eq name variable.name ≡ b → index_of (variable ∷ variables) name ≡ Some index
        → ((index : ℕ) → index_of variables name ≡ Some index → is_defined name variables ≡ true) → is_defined name (variable ∷ variables) ≡ true
    by true b h rest = rw b refl
    by false b h rest = rw b (other (index_of variables name) refl (rw b at h))
      where
        other : (found : Option ℕ) → index_of variables name ≡ found → option_map suc found ≡ Some index → is_defined name variables ≡ true
        other None e h = absurd (cc)
        other (Some j) e h = rest j e

-- the position of a number that stands among the first ones
position-front : (index : ℕ) (xs : List ℕ) (size : ℕ) → list_any (nat_eq index) (take size xs) ≡ true → (k : ℕ) × (position (nat_eq index) xs ≡ Some k) × (k < size)
position-front index [] zero h = absurd cc
position-front index [] (suc size) h = absurd cc
position-front index (x ∷ xs) zero h = absurd cc
position-front index (x ∷ xs) (suc size) h = by (nat_eq index x) refl h (position-front index xs size)
  where
    by : (b : Bool) → nat_eq index x ≡ b → list_any (nat_eq index) (take (suc size) (x ∷ xs)) ≡ true
        → (list_any (nat_eq index) (take size xs) ≡ true → (k : ℕ) × (position (nat_eq index) xs ≡ Some k) × (k < size))
        → (k : ℕ) × (position (nat_eq index) (x ∷ xs) ≡ Some k) × (k < suc size)
    by true b h rest =
        let first : nat_lt 0 (suc (length xs)) ≡ true = grind (arith, nat_tests) in
        (0, rw (b, first) refl, omega arith)
    by false b h rest =
        let among : list_any (nat_eq index) (take size xs) ≡ true = rw b at h in
        let found = rest among in
        let within = found.2 in
        (suc found.0, rw b (shifted (position_or_len (nat_eq index) xs) (length xs) ∙ ap (option_map suc) found.1), omega arith)

-- Lists of the values of the first variables of an order.
module _ (variables : List Variable) (order numbers : List ℕ) (lists : List (List (List ℕ))) (has : AreListed variables order numbers lists) where
  -- a name that has a number is that of a variable in the order
  abbrev IsInOrder : List ℕ → ℕ → Type 0
  IsInOrder name number = (index : ℕ) × (row : ℕ) × (index_of variables name ≡ Some index) × (slice_get order row ≡ Some index) × (slice_get numbers row ≡ Some number)

  number-row : (name : List ℕ) (number : ℕ) → number_of variables order numbers name ≡ Some number → IsInOrder name number
  number-row name number h = by (index_of variables name) refl
    where
      by_row : (index : ℕ) → index_of variables name ≡ Some index → (row : Option ℕ) → position (nat_eq index) order ≡ row → IsInOrder name number
      by_row index named None p = let wrong : None ≡ Some number = rw (number_of, row_of, named, p) at h in absurd (cc)
      by_row index named (Some row) p = (index, row, named, position-some index order row p, rw (number_of, row_of, named, p) at h)

      by : (found : Option ℕ) → index_of variables name ≡ found → IsInOrder name number
      by None e = let wrong : None ≡ Some number = rw (number_of, row_of, e) at h in absurd (cc)
      by (Some index) e = by_row index e (position (nat_eq index) order) refl

  -- there is a list of each number
  pub listed-there : AreThere lists (number_of variables order numbers)
  listed-there name number h = let row = number-row name number h in (has row.1 row.0 number row.3 row.4).0

  module _ (settled : Settled variables order) where
    -- a name that has a number has its values
    pub number-held : (name : List ℕ) (number : ℕ) → number_of variables order numbers name ≡ Some number
        → AreCutOff (held lists (number_of variables order numbers)) (values variables) name
    number-held name number h =
        let row = number-row name number h in
        rw (held, h) ((has row.1 row.0 number row.3 row.4).1 ∙ ap cut_off (sym (settled row.1 row.0 row.3 name row.2)))

    -- so does one that is known, where there are lists of the first ones
    pub known-held : (size : ℕ) → size ≤ length numbers → (name : List ℕ) → is_part_known variables (take size order) (Name name) ≡ true
        → AreCutOff (held lists (number_of variables order numbers)) (values variables) name
    known-held size few name h = by (index_of variables name) refl
      where
        at_row : (index row : ℕ) → index_of variables name ≡ Some index → position (nat_eq index) order ≡ Some row → row < size
            → AreCutOff (held lists (number_of variables order numbers)) (values variables) name
        at_row index row named there within = elim (slice_get_cases numbers row).1 [
          | inl found ↦ number-held name found.0 (rw (number_of, row_of, named, there) found.2)
          | inr past ↦ let far = past.0 in absurd (omega arith)
        ]

        by : (found : Option ℕ) → index_of variables name ≡ found → AreCutOff (held lists (number_of variables order numbers)) (values variables) name
        by None e =
            let nothing : number_of variables order numbers name ≡ None = rw (number_of, row_of, e) refl in
            rw (held, nothing) (ap cut_off (sym (values_within-from_none variables (length variables) name e)))
        by (Some index) e =
            let found = position-front index order size (rw (e, is_part_known) at h) in
            at_row index found.0 e found.1 found.2

    module _ (size : ℕ) (few : size ≤ length numbers) where
      parts-known : (ps : List Part) → list_all (is_part_known variables (take size order)) ps ≡ true → EachName (AreCutOff (held lists (number_of variables order numbers)) (values variables)) ps
      parts-known [] h = tt
      parts-known (Byte b ∷ ps) h = parts-known ps (and_parts (is_part_known variables (take size order) (Byte b)) (list_all (is_part_known variables (take size order)) ps) h).1
      parts-known (Unclosed ∷ ps) h = tt
      parts-known (Name name ∷ ps) h =
          let both = and_parts (is_part_known variables (take size order) (Name name)) (list_all (is_part_known variables (take size order)) ps) h in
          (known-held size few name both.0, parts-known ps both.1)

      -- for each name in a known text
      pub text-known : (text : List ℕ) → is_text_known variables (take size order) text ≡ true → EachNameIn (AreCutOff (held lists (number_of variables order numbers)) (values variables)) text
      text-known text h = parts-known (parts text) h

      -- for each in known words
      pub words-known : (words : List (List ℕ)) → are_texts_known variables (take size order) words ≡ true
          → EachNameWithin (AreCutOff (held lists (number_of variables order numbers)) (values variables)) words
      words-known [] h = tt
      words-known (word ∷ words) h =
          let both = and_parts (is_text_known variables (take size order) word) (are_texts_known variables (take size order) words) h in
          (text-known word both.0, words-known words both.1)

  -- more lists
  pub listed-kept : (after : List (List (List ℕ))) → AreKept lists after → AreListed variables order numbers after
  listed-kept after kept row index number at is =
      let here = has row index number at is in
      let within = here.0 in
      let more = kept.as_many in
      (omega arith, ap cut_off (kept.same number within) ∙ here.1)

  -- a list of one more variable
  pub listed-pushed : (after : List (List (List ℕ))) (index number : ℕ) → AreKept lists after → slice_get order (length numbers) ≡ Some index → number < length after
      → cut_off (list_at after number) ≡ cut_off_at variables index → AreListed variables order (numbers ++ number ∷ []) after
  listed-pushed after index number kept there within value row other last at is = elim (slice_get-push numbers number row last is) [
    | inl front ↦ listed-kept after kept row other last at front.1
    | inr here ↦
        let said : Some index ≡ Some other = sym there ∙ ap (slice_get order) (sym here.0) ∙ at in
        let same : index ≡ other = cc in
        (subst (λ n. n < length after) here.1 within, ap (λ n. cut_off (list_at after n)) (sym here.1) ∙ value ∙ ap (cut_off_at variables) same)
  ]

-- no lists of no variables
pub none-listed : (variables : List Variable) (order numbers : List ℕ) (lists : List (List (List ℕ))) → numbers ≡ [] → AreListed variables order numbers lists
none-listed variables order numbers lists none row index number at is = let there : slice_get [] row ≡ Some number = rw none at is in absurd (nothing row there)
  where
    nothing : (row : ℕ) → slice_get {X = ℕ} [] row ≡ Some number → ⊥
    nothing zero h = cc
    nothing (suc row) h = cc

-- no numbers are distinct
distinct-nothing : IsDistinct nat_eq []
unfolding IsDistinct
distinct-nothing = tt

-- a table without rows
pub empty-table : (variables : List Variable) (order counts numbers : List ℕ) (lists : List (List (List ℕ))) → order ≡ [] → counts ≡ [] → numbers ≡ [] → IsTable variables order counts numbers lists
empty-table variables order counts numbers lists o c n = rw (o, c, n) (record {
  settled = record { ordered = λ at index h. absurd (nothing at index h); below = λ q h. absurd (cc); distinct = distinct-nothing };
  defined = λ index h. absurd (cc);
  counted = refl;
  few = omega arith;
  listed = none-listed variables [] [] lists refl;
})
  where
    nothing : (at index : ℕ) → slice_get {X = ℕ} [] at ≡ Some index → ⊥
    nothing zero index h = cc
    nothing (suc at) index h = cc

module _ (variables : List Variable) (order counts numbers : List ℕ) (lists : List (List (List ℕ))) (table : IsTable variables order counts numbers lists) where
  -- the values of each variable in the order are the expansions of its words
  pub settled-values : Settled variables order
  settled-values = values-settled variables order table.settled.ordered (settled-few variables order table.settled)

  -- a part that has a list is known and defined
  part-listed : (name : List ℕ) → is_none (number_of variables order numbers name) ≡ false → (number : ℕ) × (number_of variables order numbers name ≡ Some number)
  part-listed name h = by (number_of variables order numbers name) refl
    where
      by : (found : Option ℕ) → number_of variables order numbers name ≡ found → (number : ℕ) × (number_of variables order numbers name ≡ Some number)
      by None e = let wrong : true ≡ false = rw e at h in absurd (cc)
      by (Some number) e = (number, e)

  parts-known_held : (ps : List Part) → list_any (is_missing (λ name. is_none (number_of variables order numbers name))) ps ≡ false → list_all (is_part_known variables order) ps ≡ true
  parts-known_held [] h = refl
  parts-known_held (Byte b ∷ ps) h = parts-known_held ps h
  parts-known_held (Unclosed ∷ ps) h = absurd (cc)
  parts-known_held (Name name ∷ ps) h =
      let both = or_parts (is_none (number_of variables order numbers name)) (list_any (is_missing (λ name. is_none (number_of variables order numbers name))) ps) h in
      let found = part-listed name both.0 in
      let row = number-row variables order numbers lists table.listed name found.0 found.1 in
      let here : is_part_known variables order (Name name) ≡ true = rw (row.2, is_part_known) (listed order row.1 row.0 row.3) in
      both_true here (parts-known_held ps both.1)

  parts-defined_held : (ps : List Part) → list_any (is_missing (λ name. is_none (number_of variables order numbers name))) ps ≡ false → list_any (is_undefined variables) ps ≡ false
  parts-defined_held [] h = refl
  parts-defined_held (Byte b ∷ ps) h = parts-defined_held ps h
  parts-defined_held (Unclosed ∷ ps) h = absurd (cc)
  parts-defined_held (Name name ∷ ps) h =
      let both = or_parts (is_none (number_of variables order numbers name)) (list_any (is_missing (λ name. is_none (number_of variables order numbers name))) ps) h in
      let found = part-listed name both.0 in
      let row = number-row variables order numbers lists table.listed name found.0 found.1 in
      let here : is_undefined variables (Name name) ≡ false = ap not (index-defined variables name row.0 row.2) in
      or_from (is_undefined variables (Name name)) (list_any (is_undefined variables) ps) here (parts-defined_held ps both.1)

  parts-held : (ps : List Part) → list_any (is_missing (λ name. is_none (number_of variables order numbers name))) ps ≡ false
      → EachName (AreCutOff (held lists (number_of variables order numbers)) (values variables)) ps
  parts-held [] h = tt
  parts-held (Byte b ∷ ps) h = parts-held ps h
  parts-held (Unclosed ∷ ps) h = tt
  parts-held (Name name ∷ ps) h =
      let both = or_parts (is_none (number_of variables order numbers name)) (list_any (is_missing (λ name. is_none (number_of variables order numbers name))) ps) h in
      let found = part-listed name both.0 in
      (number-held variables order numbers lists table.listed settled-values name found.0 found.1, parts-held ps both.1)

  -- there are the values of each name in a text for whose names there are lists
  pub text-held : (text : List ℕ) → is_text_lacking (number_of variables order numbers) text ≡ false → EachNameIn (AreCutOff (held lists (number_of variables order numbers)) (values variables)) text
  text-held text h = parts-held (parts text) h

  -- a variable is known as long as one more stands in an order
  known-first : (k : ℕ) (part : Part) → is_part_known variables (take k order) part ≡ true → is_part_known variables order part ≡ true
  known-first k (Byte b) h = refl
  known-first k Unclosed h = refl
  known-first k (Name name) h = by (index_of variables name) refl
    where
      by : (found : Option ℕ) → index_of variables name ≡ found → is_part_known variables order (Name name) ≡ true
      by None e = rw (e, is_part_known) refl
      by (Some index) e =
          let front : list_any (nat_eq index) (take k order) ≡ true = rw (e, is_part_known) at h in
          rw (e, is_part_known) (subst (λ all. list_any (nat_eq index) all ≡ true) (take-append-drop k order) (any-left (nat_eq index) (take k order) (drop k order) front))

  closed : (index : ℕ) → list_any (nat_eq index) order ≡ true → are_texts_known variables order (words_at variables index) ≡ true
  closed index has =
      let found = index-found order index has in
      all-weaker (is_text_known variables (take found.0 order)) (is_text_known variables order)
      (λ text. all-weaker (is_part_known variables (take found.0 order)) (is_part_known variables order) (known-first found.0) (parts text))
      (words_at variables index) (table.settled.ordered found.0 index found.1)

  -- a text that is known, and names nothing undefined, is fine
  pub known-fine : (text : List ℕ) → is_text_known variables order text ≡ true → names_undefined variables text ≡ false → expansion_refusal variables text ≡ None
  known-fine text known defined =
      refusal-none variables text order table.settled.ordered (settled-few variables order table.settled) known (leads-none variables order closed table.defined (length variables) text known defined)

  -- so is one for whose names all values are held
  pub held-fine : (text : List ℕ) → is_text_lacking (number_of variables order numbers) text ≡ false → expansion_refusal variables text ≡ None
  held-fine text h = known-fine text (parts-known_held (parts text) h) (parts-defined_held (parts text) h)

  -- lists of all variables
  pub table-filled : (all : List ℕ) (after : List (List (List ℕ))) → AreListed variables order all after → length all ≡ length order → IsTable variables order counts all after
  table-filled all after has size = record {
    settled = table.settled;
    defined = table.defined;
    counted = table.counted;
    few = omega (arith, size);
    listed = has;
  }

  -- more lists
  pub table-kept : (after : List (List (List ℕ))) → AreKept lists after → IsTable variables order counts numbers after
  table-kept after kept = record {
    settled = table.settled;
    defined = table.defined;
    counted = table.counted;
    few = table.few;
    listed = listed-kept variables order numbers lists table.listed after kept;
  }

  module _ (text more : List ℕ) (of : IsOrderOf variables text order more) where
    -- the counts so far are those of the first variables of a longer order
    pub first-counts : AreFirstCounts variables more counts
    first-counts =
        let size : length counts ≡ length order = ap length table.counted ∙ length-map order (count_at variables) in
        table.counted ∙ ap (map (count_at variables)) (sym (ap (λ n. take n more) size ∙ ap (take (length order)) of.begins.1 ∙ take-append_seam order of.begins.0))

    -- a longer table
    pub table-grown : (counted : List ℕ) → counted ≡ map (count_at variables) more → list_any (names_undefined_at variables) (drop (length order) more) ≡ false
        → IsTable variables more counted numbers lists
    table-grown counted c none = record {
      settled = of.settled;
      defined = λ index is. elim (any-split (nat_eq index) order of.begins.0 (subst (λ all. list_any (nat_eq index) all ≡ true) of.begins.1 is)) [
        | inl early ↦ table.defined index early
        | inr late ↦ none-at (names_undefined_at variables) of.begins.0 index (subst (λ rest. list_any (names_undefined_at variables) rest ≡ false) (ap (drop (length order)) of.begins.1 ∙ drop-append_seam order of.begins.0) none) late
      ];
      counted = c;
      few = let long = ap length of.begins.1 ∙ length-append order of.begins.0 in let few = table.few in omega arith;
      listed = λ row index number at is.
          let within : row < length numbers = slice_get_within numbers row number is in
          let few = table.few in
          let inside : row < length order = omega arith in
          table.listed row index number (sym (slice_get-front order of.begins.0 row inside) ∙ ap (λ all. slice_get all row) (sym of.begins.1) ∙ at) is;
    }

-- what a column of numbers has
pub numbers-beside : (column : Column ℕ) (variables : List Variable) (order numbers : List ℕ) → IsBeside column variables order numbers → numbers_in column ≡ number_of variables order numbers
numbers-beside column variables order numbers beside = rw (beside.holder, beside.ordered, beside.filled) refl

-- there is a list of each
pub column-there : (column : Column ℕ) (variables : List Variable) (order numbers : List ℕ) (lists : List (List (List ℕ))) → IsBeside column variables order numbers
    → AreListed variables order numbers lists → AreThere lists (numbers_in column)
column-there column variables order numbers lists beside has =
    subst (AreThere lists) (sym (numbers-beside column variables order numbers beside)) (listed-there variables order numbers lists has)

-- a list of one more variable, by those of the variables before it in an order
pub row-listed : (variables : List Variable) (order numbers pushed : List ℕ) (lists after : List (List (List ℕ))) (column : Column ℕ) (index number : ℕ) → IsOrder variables order → Settled variables order
    → IsBeside column variables order numbers → AreListed variables order numbers lists → Some index ≡ slice_get order (length numbers)
    → ExpandsWords lists (numbers_in column) (words_at column.variables.now index) number after → pushed ≡ numbers ++ number ∷ [] → AreListed variables order pushed after
row-listed variables order numbers pushed lists after column index number ordered settled beside has there words p =
    let looks = numbers-beside column variables order numbers beside in
    let each = words-known variables order numbers lists has settled (length numbers) (omega arith) (words_at variables index) (ordered (length numbers) index (sym there)) in
    let every : EachNameWithin (AreCutOff (held lists (numbers_in column)) (values variables)) (words_at column.variables.now index) =
    subst (λ all. EachNameWithin (AreCutOff (held lists (numbers_in column)) (values variables)) (words_at all index)) (sym beside.holder)
    (subst (λ of. EachNameWithin (AreCutOff (held lists of) (values variables)) (words_at variables index)) (sym looks) each)
    in
    subst (λ all. AreListed variables order all after) (sym p)
    (listed-pushed variables order numbers lists has after index number words.kept (sym there) words.within
    (words.value (values variables) every ∙ ap (λ all. cut_off (choices_within (values variables) (words_at all index))) beside.holder))

-- a list of the expansions of a text of which each variable is in an order
pub known-listed : (variables : List Variable) (order numbers : List ℕ) (lists after : List (List (List ℕ))) (column : Column ℕ) (text : List ℕ) (number : ℕ) → Settled variables order
    → IsBeside column variables order numbers → AreListed variables order numbers lists → length numbers ≡ length order → is_text_known variables order text ≡ true
    → Expands lists (numbers_in column) text number after → cut_off (list_at after number) ≡ cut_off (expansions variables text)
known-listed variables order numbers lists after column text number settled beside has size known of =
    let whole : take (length order) order ≡ order = take_all (length order) order (omega arith) in
    let each = text-known variables order numbers lists has settled (length order) (omega (arith, size)) text (rw whole known) in
    of.value (values variables) (subst (λ by. EachNameIn (AreCutOff (held lists by) (values variables)) text) (sym (numbers-beside column variables order numbers beside)) each)

-- a list of the expansions of a text for whose names a table has lists
pub held-listed : (variables : List Variable) (order counts numbers : List ℕ) (lists after : List (List (List ℕ))) (table : IsTable variables order counts numbers lists) (column : Column ℕ) (text : List ℕ) (number : ℕ)
    → IsBeside column variables order numbers → is_text_lacking (number_of variables order numbers) text ≡ false
    → Expands lists (numbers_in column) text number after → cut_off (list_at after number) ≡ cut_off (expansions variables text)
held-listed variables order counts numbers lists after table column text number beside none of =
    of.value (values variables) (subst (λ by. EachNameIn (AreCutOff (held lists by) (values variables)) text) (sym (numbers-beside column variables order numbers beside))
    (text-held variables order counts numbers lists table text none))
