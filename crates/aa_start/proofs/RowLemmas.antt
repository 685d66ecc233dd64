-- What rows show, as uses of arguments change them.
use Rattle.std.proofs.Common.{◌≡◌, ◌∙◌, ◌++◌, ◌≤◌, ℕ, Bool, true, false, List, [], ◌∷◌, Option, Some, None, append_assoc, refl, sym, ap, subst, eqb, arith, codes}
use Rattle.std.specs.Prelude.{drop, find, fold, is_some, nat_lt, option_and_then, option_map, slice_get, unwrap_or}
use Rattle.std.specs.Str.{bytes_eq}
use Rattle.std.proofs.lemmas.Slice.Eq.{bytes_eq-Decides}
use Rattle.std.proofs.lemmas.Bool.Decides.{nat_tests}
use Rattle.aa_start.specs.Rows.{ShowsFlag, ShowsValue, ShowsWords, flag_rows, picked, value_rows, word_rows}
use Rattle.aa_start.proofs.WalkLemmas.{same_id}
use Rattle.clap.specs.Lexer.{usize_max}
use Rattle.clap.specs.Words.{all_of, first_of}
use Rattle.clap.specs.Faults.{default_fault, defaults_fault, repeat_fault}
use Rattle.clap.specs.Walk.{Row, Rule, Text, has_row, stronger, with_default, with_values, without}
use Rattle.clap.specs.Kinds.{range_kinds, values_kinds}
use Rattle.clap.specs.declared.builder.value_parser.Reading.{Reading}
use Rattle.clap.specs.declared.builder.value_parser.Reading.TheVariants.{AsWritten}
use Rattle.clap.specs.declared.builder.value_parser.ValueParser.TheVariants.{String}
use Rattle.clap.specs.declared.parser.matches.ValueSource.{ValueSource}
use Rattle.clap.specs.declared.parser.matches.ValueSource.TheVariants.{CommandLine, DefaultValue}

abbrev pub first_row : List Row → Option Row
first_row [] = None
first_row (r ∷ rs) = Some r

pub found_picked : (id : Text) (rows : List Row) → find (λ r. bytes_eq r.id id) rows ≡ first_row (picked id rows)
found_picked id [] = refl
found_picked id (r ∷ rs) = by (bytes_eq r.id id) refl (found_picked id rs)
  where
    by : (b : Bool) → bytes_eq r.id id ≡ b → find (λ r. bytes_eq r.id id) rs ≡ first_row (picked id rs) → find (λ r. bytes_eq r.id id) (r ∷ rs) ≡ first_row (picked id (r ∷ rs))
    by true e more = rw e refl
    by false e more = rw e more

pub has_picked : (id : Text) (rows : List Row) → has_row id rows ≡ is_some (first_row (picked id rows))
has_picked id [] = refl
has_picked id (r ∷ rs) = by (bytes_eq r.id id) refl (has_picked id rs)
  where
    by : (b : Bool) → bytes_eq r.id id ≡ b → has_row id rs ≡ is_some (first_row (picked id rs)) → has_row id (r ∷ rs) ≡ is_some (first_row (picked id (r ∷ rs)))
    by true e more = rw e refl
    by false e more = rw e more

-- a row of an id is none of another
other_id : (r : Row) (id other : Text) → bytes_eq r.id id ≡ true → bytes_eq id other ≡ false → bytes_eq r.id other ≡ false
other_id r id other e d = subst (λ t. bytes_eq t other ≡ false) (sym ((bytes_eq-Decides r.id id).0 e)) d

pub picked_with : (id : Text) (how : Reading) (s : ValueSource) (vs : List Text) (rows : List Row)
    → picked id (with_values id how s vs rows) ≡ with_values id how s vs (picked id rows)
picked_with id how s vs [] = let same = same_id id in rw same refl
picked_with id how s vs (r ∷ rs) = by (bytes_eq r.id id) refl (picked_with id how s vs rs)
  where
    by : (b : Bool) → bytes_eq r.id id ≡ b → picked id (with_values id how s vs rs) ≡ with_values id how s vs (picked id rs)
        → picked id (with_values id how s vs (r ∷ rs)) ≡ with_values id how s vs (picked id (r ∷ rs))
    by true e more = rw (e, e) refl
    by false e more = rw (e, e) more

picked_without : (id : Text) (rows : List Row) → picked id (without id rows) ≡ drop 1 (picked id rows)
picked_without id [] = refl
picked_without id (r ∷ rs) = by (bytes_eq r.id id) refl (picked_without id rs)
  where
    by : (b : Bool) → bytes_eq r.id id ≡ b → picked id (without id rs) ≡ drop 1 (picked id rs) → picked id (without id (r ∷ rs)) ≡ drop 1 (picked id (r ∷ rs))
    by true e more = rw e refl
    by false e more = rw (e, e) more

-- another argument's rows stay
pub other_with : (id other : Text) (how : Reading) (s : ValueSource) (vs : List Text) (rows : List Row) → bytes_eq id other ≡ false
    → picked other (with_values id how s vs rows) ≡ picked other rows
other_with id other how s vs [] d = rw d refl
other_with id other how s vs (r ∷ rs) d = by (bytes_eq r.id id) refl (bytes_eq r.id other) refl (other_with id other how s vs rs d)
  where
    by : (same : Bool) → bytes_eq r.id id ≡ same → (kept : Bool) → bytes_eq r.id other ≡ kept → picked other (with_values id how s vs rs) ≡ picked other rs
        → picked other (with_values id how s vs (r ∷ rs)) ≡ picked other (r ∷ rs)
    by true e kept o more = let none = other_id r id other e d in rw (e, none) refl
    by false e true o more = rw (e, o) (ap (λ l. r ∷ l) more)
    by false e false o more = rw (e, o) more

other_without : (id other : Text) (rows : List Row) → bytes_eq id other ≡ false → picked other (without id rows) ≡ picked other rows
other_without id other [] d = refl
other_without id other (r ∷ rs) d = by (bytes_eq r.id id) refl (bytes_eq r.id other) refl (other_without id other rs d)
  where
    by : (same : Bool) → bytes_eq r.id id ≡ same → (kept : Bool) → bytes_eq r.id other ≡ kept → picked other (without id rs) ≡ picked other rs
        → picked other (without id (r ∷ rs)) ≡ picked other (r ∷ rs)
    by true e kept o more = let none = other_id r id other e d in rw (e, none) refl
    by false e true o more = rw (e, o) (ap (λ l. r ∷ l) more)
    by false e false o more = rw (e, o) more

stays_given : (source : Option ValueSource) → stronger source CommandLine ≡ CommandLine
stays_given None = refl
stays_given (Some CommandLine) = refl
stays_given (Some DefaultValue) = refl

-- values that come one after the other come at once
pub values_twice : (id : Text) (how : Reading) (vs ws : List Text) (rows : List Row)
    → with_values id how CommandLine (vs ++ ws) rows ≡ with_values id how CommandLine ws (with_values id how CommandLine vs rows)
values_twice id how vs ws [] = let same = same_id id in rw same refl
values_twice id how vs ws (r ∷ rs) = by (bytes_eq r.id id) refl (values_twice id how vs ws rs)
  where
    by : (b : Bool) → bytes_eq r.id id ≡ b
        → with_values id how CommandLine (vs ++ ws) rs ≡ with_values id how CommandLine ws (with_values id how CommandLine vs rs)
        → with_values id how CommandLine (vs ++ ws) (r ∷ rs) ≡ with_values id how CommandLine ws (with_values id how CommandLine vs (r ∷ rs))
    by true e more = let stays = stays_given r.source in let all = append_assoc r.values vs ws in rw (e, e, stays, all) refl
    by false e more = rw (e, e) (ap (λ l. r ∷ l) more)

-- ---- one more use

-- the rows after a use of an option that takes the place of the one before, and after one more word
abbrev pub replaced : Text → Text → List Row → List Row
replaced id value rows = with_values id AsWritten CommandLine (value ∷ []) (without id rows)

abbrev pub appended : Text → Text → List Row → List Row
appended id word rows = with_values id AsWritten CommandLine (word ∷ []) rows

pub other_replaced : (id other value : Text) (rows : List Row) → bytes_eq id other ≡ false → picked other (replaced id value rows) ≡ picked other rows
other_replaced id other value rows d = other_with id other AsWritten CommandLine (value ∷ []) (without id rows) d ∙ other_without id other rows d

pub other_appended : (id other word : Text) (rows : List Row) → bytes_eq id other ≡ false → picked other (appended id word rows) ≡ picked other rows
other_appended id other word rows d = other_with id other AsWritten CommandLine (word ∷ []) rows d

pub value_replaced : (id : Text) (before : Option Text) (value : Text) (rows : List Row) → ShowsValue id before rows → ShowsValue id (Some value) (replaced id value rows)
value_replaced id before value rows h =
    picked_with id AsWritten CommandLine (value ∷ []) (without id rows)
    ∙ ap (with_values id AsWritten CommandLine (value ∷ [])) (picked_without id rows ∙ ap (drop 1) h ∙ gone before)
  where
    gone : (value : Option Text) → drop 1 (value_rows id value) ≡ []
    gone None = refl
    gone (Some value) = refl

pub flag_replaced : (id : Text) (before : Bool) (rows : List Row) → ShowsFlag id before rows → ShowsFlag id true (replaced id (codes "true") rows)
flag_replaced id before rows h =
    picked_with id AsWritten CommandLine (codes "true" ∷ []) (without id rows)
    ∙ ap (with_values id AsWritten CommandLine (codes "true" ∷ [])) (picked_without id rows ∙ ap (drop 1) h ∙ gone before)
  where
    gone : (flag : Bool) → drop 1 (flag_rows id flag) ≡ []
    gone true = refl
    gone false = refl

pub words_appended : (id : Text) (words : List Text) (word : Text) (rows : List Row) → ShowsWords id words rows → ShowsWords id (words ++ word ∷ []) (appended id word rows)
words_appended id words word rows h = picked_with id AsWritten CommandLine (word ∷ []) rows ∙ ap (appended id word) h ∙ more words
  where
    more : (ws : List Text) → appended id word (word_rows id ws) ≡ word_rows id (ws ++ word ∷ [])
    more [] = refl
    more (w ∷ ws) = let same = same_id id in rw same refl

-- ---- what is read of rows

pub value_shown : (id : Text) (value : Option Text) (rows : List Row) → ShowsValue id value rows → first_of id rows ≡ value
value_shown id value rows h = ap (option_and_then (λ (r : Row). slice_get r.values 0)) (found_picked id rows ∙ ap first_row h) ∙ is value
  where
    is : (value : Option Text) → option_and_then (λ (r : Row). slice_get r.values 0) (first_row (value_rows id value)) ≡ value
    is None = refl
    is (Some value) = refl

pub words_shown : (id : Text) (words : List Text) (rows : List Row) → ShowsWords id words rows → unwrap_or (all_of id rows) [] ≡ words
words_shown id words rows h = ap (λ (o : Option Row). unwrap_or (option_map (λ (r : Row). r.values) o) []) (found_picked id rows ∙ ap first_row h) ∙ are words
  where
    are : (words : List Text) → unwrap_or (option_map (λ (r : Row). r.values) (first_row (word_rows id words))) [] ≡ words
    are [] = refl
    are (w ∷ ws) = refl

-- ---- uses that pass

-- from one to `usize::MAX` values are wanted
pub range_fits : (m : ℕ) → 1 ≤ m → m ≤ usize_max → range_kinds 1 usize_max m ≡ []
range_fits m least most =
    let some : eqb m 0 ≡ false = grind (arith, nat_tests) in
    let enough : nat_lt m 1 ≡ false = grind (arith, nat_tests) in
    let few : nat_lt usize_max m ≡ false = grind (arith, nat_tests) in
    rw (some, enough, few) refl

-- each text passes as a value
pub texts_pass : (vs : List Text) → values_kinds false String vs ≡ []
texts_pass [] = refl
texts_pass (v ∷ vs) = texts_pass vs

-- a second use of an option is no fault
pub repeat_passes : (id : Text) (rows : List Row) → repeat_fault true id rows ≡ []
repeat_passes id rows = by (has_row id rows) refl
  where
    by : (b : Bool) → has_row id rows ≡ b → repeat_fault true id rows ≡ []
    by true e = rw e refl
    by false e = rw e refl

-- ---- rules without defaults

abbrev pub NoDefaults : List Rule → Type 0
NoDefaults [] = Unit {0}
NoDefaults (a ∷ rules) = (a.defaults ≡ []) × NoDefaults rules

no_default : (rows : List Row) (a : Rule) → a.defaults ≡ [] → (with_default rows a ≡ rows) × (default_fault rows a ≡ [])
no_default rows a none = by (has_row a.id rows) refl
  where
    by : (b : Bool) → has_row a.id rows ≡ b → (with_default rows a ≡ rows) × (default_fault rows a ≡ [])
    by true e = (rw e refl, rw e refl)
    by false e = (rw (e, none) refl, rw (e, none) refl)

pub no_defaults : (rules : List Rule) (rows : List Row) → NoDefaults rules → (fold with_default rows rules ≡ rows) × (defaults_fault rows rules ≡ [])
unfolding defaults_fault
no_defaults [] rows none = (refl, refl)
no_defaults (a ∷ rules) rows none =
    let first = no_default rows a none.0 in
    let more = no_defaults rules rows none.1 in
    (rw first.0 more.0, rw (first.1, first.0) more.1)
