-- What `clap` makes of the words behind `check` is what they ask for.
use Rattle.std.proofs.Common.{◌≡◌, ◌∙◌, ◌≤◌, ℕ, Bool, true, false, List, [], ◌∷◌, length, Option, Some, None, append-nil, append_assoc, refl, ap, ap₂, inl, inr, subst, arith, codes}
use Rattle.std.specs.Prelude.{◌==◌, unwrap_or}
use Rattle.std.specs.Char.{encode_utf8}
use Rattle.std.specs.Str.{bytes_eq}
use Rattle.std.proofs.lemmas.Bool.Decides.{eqb_tells}
use Rattle.aa_start.specs.Lines.{GoesOn, IsDoneBy, Reads, TakesValue}
use Rattle.aa_start.specs.Options.{base_letter, default_base, help_letter}
use Rattle.aa_start.specs.Parsing.{IsReadAs}
use Rattle.aa_start.specs.Rows.{ShowsValue, ShowsWords}
use Rattle.aa_start.proofs.EndLemmas.{words_are_read}
use Rattle.aa_start.proofs.LineLemmas.{WantsNothing}
use Rattle.aa_start.proofs.RowLemmas.{no_defaults, other_appended, other_replaced, range_fits, repeat_passes, replaced, appended, texts_pass, value_replaced, values_twice, words_appended}
use Rattle.clap.specs.Lexer.{usize_max}
use Rattle.clap.specs.Words.{Row, Rule, Text, is_simple, is_simple_and_free}
use Rattle.clap.specs.Simple.{built, filled, with_index}
use Rattle.clap.specs.Walk.{arg_by_long, arg_by_short}
use Rattle.clap.specs.Kinds.{or_else}
use Rattle.clap.specs.declared.builder.value_parser.Reading.TheVariants.{AsWritten}
use Rattle.clap.proofs.OnLiterals.{clap_on_literals}
use Rattle.aatry_arguments.specs.CheckLine.{base_rule, check_line, name_rule}
use Rattle.aatry_arguments.specs.CheckWords.{CheckAsked, asked_check, bare_check, below, check_options, with_names}

abbrev base_id : Text
base_id = codes "DIR"

abbrev name_id : Text
name_id = codes "NAME"

-- the rules as `clap` builds them
abbrev rules : List Rule
rules = (built check_line).top.rules

abbrev name_built : Rule
name_built = with_index 1 (filled name_rule)

abbrev base_built : Rule
base_built = with_index 1 (filled base_rule)

-- the rows are those of the check
abbrev pub Shows : CheckAsked → List Row → Type 0
Shows check rows = ShowsWords name_id check.names rows × ((base : Option Text) × ShowsValue base_id base rows × (check.base ≡ unwrap_or base default_base))

pub is_free : is_simple_and_free check_line ≡ true
unfolding clap_on_literals
is_free = refl

pub is_simple_line : is_simple check_line ≡ true
is_simple_line = refl

takes_base : TakesValue rules name_built base_built
takes_base = record {
  most = refl;
  found = refl;
  other = refl;
  one = λ folder rows. let again = repeat_passes base_id rows in rw again refl;
  none = λ rows. refl;
}

shows_below : (folder : Text) (check : CheckAsked) (rows : List Row) → Shows check rows → Shows (below folder check) (replaced base_id folder rows)
shows_below folder check rows h = (
  other_replaced base_id name_id folder rows refl ∙ h.0,
  (Some folder, value_replaced base_id h.1.0 folder rows h.1.1, refl),
)

shows_named : (name : Text) (check : CheckAsked) (rows : List Row) → Shows check rows → Shows (with_names (name ∷ []) check) (appended name_id name rows)
shows_named name check rows h = (
  words_appended name_id check.names name rows h.0,
  (h.1.0, other_appended name_id base_id name rows refl ∙ h.1.1, h.1.2),
)

by_letter : (x : ℕ) → IsDoneBy Shows rules name_built (check_options.by_letter x) (arg_by_short rules x)
by_letter x = by (base_letter == x) refl (help_letter == x) refl
  where
    by : (b : Bool) → (base_letter == x) ≡ b → (h : Bool) → (help_letter == x) ≡ h → IsDoneBy Shows rules name_built (check_options.by_letter x) (arg_by_short rules x)
    by true b h hh = rw b (takes_base, shows_below)
    by false b true h = rw (b, h) (refl, λ rows. refl)
    by false b false h = rw (b, h) tt

by_name : (name : Text) → IsDoneBy Shows rules name_built (check_options.by_name name) (arg_by_long rules name)
by_name name = by (bytes_eq (codes "help") name) refl
  where
    by : (h : Bool) → bytes_eq (codes "help") name ≡ h → IsDoneBy Shows rules name_built (check_options.by_name name) (arg_by_long rules name)
    by true h = rw h (refl, λ rows. refl)
    by false h = rw h tt

one_byte : (x : ℕ) → GoesOn (check_options.by_letter x) → length (encode_utf8 x) ≡ 1
unfolding encode_utf8
one_byte x goes = elim (eqb_tells base_letter x) [
  | inl h ↦ subst (λ x. length (encode_utf8 x) ≡ 1) h.1 refl
  | inr h ↦ absurd (other h.0 (help_letter == x) refl goes)
]
  where
    other : (base_letter == x) ≡ false → (h : Bool) → (help_letter == x) ≡ h → GoesOn (check_options.by_letter x) → ⊥
    other b true h goes = rw (b, h) at goes
    other b false h goes = rw (b, h) at goes

-- more names are behind those that there are
pub no_names : (check : CheckAsked) → with_names [] check ≡ check
no_names check = ap (λ (names : List Text). record check { names = names }) (append-nil check.names)

pub names_in_turn : (name : Text) (more : List Text) (check : CheckAsked) → with_names more (with_names (name ∷ []) check) ≡ with_names (name ∷ more) check
names_in_turn name more check = ap (λ (names : List Text). record check { names = names }) (append_assoc check.names (name ∷ []) more)

reads : Reads check_options check_line Shows
reads = record {
  words = name_built;
  bare = bare_check;
  simple = is_simple_line;
  free = is_free;
  subs = refl;
  own_name = refl;
  again = refl;
  by_letter = by_letter;
  by_name = by_name;
  one_byte = one_byte;
  found = refl;
  placed = refl;
  several = refl;
  multiple = refl;
  free_words = refl;
  passes = λ first more rows fits. ap₂ or_else (range_fits (length (first ∷ more)) (omega arith) fits) (texts_pass (first ∷ more));
  in_turn = λ first more last rows. values_twice name_id AsWritten (first ∷ more) (last ∷ []) rows;
  shows_bare = (refl, (None, refl, refl));
  shows_word = shows_named;
  none_more = no_names;
  one_more = names_in_turn;
  defaults = λ rows. (no_defaults rules rows (refl, (refl, (refl, tt)))).1;
}

pub wants_nothing : WantsNothing check_line
wants_nothing = ((λ rows. (no_defaults rules rows (refl, (refl, (refl, tt)))).0), λ rows. refl)

pub check_read : (words : List Text) → length words ≤ usize_max → IsReadAs check_line Shows words (asked_check words)
unfolding reads
check_read words fits = words_are_read check_options check_line Shows reads words fits
