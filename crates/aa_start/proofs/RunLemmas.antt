-- What `clap` makes of the words is what they ask for.
use Rattle.std.proofs.Common.{◌≡◌, ◌∙◌, ◌≤◌, ℕ, Bool, true, false, List, [], ◌∷◌, length, Option, Some, None, append-nil, append_assoc, inl, inr, refl, sym, ap, ap₂, subst, arith, codes}
use Rattle.std.specs.Prelude.{◌==◌, Err, drop, find, fold, if◌then◌else◌, is_some, option_and_then, unwrap_or}
use Rattle.std.proofs.lemmas.Slice.Eq.{bytes_eq-Decides}
use Rattle.std.specs.Option.{option_map_or}
use Rattle.std.specs.Char.{encode_utf8}
use Rattle.std.specs.Str.{bytes_eq}
use Rattle.std.proofs.lemmas.Bool.Decides.{eqb_tells}
use Rattle.aa_start.specs.Given.{IsGivenFor}
use Rattle.aa_start.specs.declared.fault.ArgumentFault.{ArgumentFault}
use Rattle.aa_start.specs.declared.fault.ArgumentFault.TheVariants.{Bad, Help, Memory, Version}
use Rattle.aa_start.specs.Lines.{GoesOn, IsDoneBy, Reads, TakesValue}
use Rattle.aa_start.specs.Options as words
use Rattle.aa_start.specs.Options.{Open, base_letter, default_base, help_letter, version_letter}
use Rattle.aa_start.specs.Parsing.{IsReadAs, with_defaults}
use Rattle.aa_start.specs.Rows.{ShowsFlag, ShowsValue, ShowsWords, picked, word_rows}
use Rattle.aa_start.proofs.EndLemmas.{words_are_read}
use Rattle.aa_start.proofs.FaultLemmas.{AreKindsFor}
use Rattle.aa_start.proofs.RowLemmas.{appended, first_row, flag_replaced, found_picked, has_picked, no_defaults, other_appended, other_replaced, other_with, picked_with, range_fits, repeat_passes, replaced, texts_pass, value_replaced, value_shown, values_twice, words_appended, words_shown}
use Rattle.clap.specs.Lexer.{usize_max}
use Rattle.clap.specs.Words.{Row, Rule, Text, all_of, fault_of, first_of, is_simple, is_simple_and_free, matches_of}
use Rattle.clap.specs.Simple.{built, filled, with_index}
use Rattle.clap.specs.Faults.{check_fault, default_fault, defaults_fault}
use Rattle.clap.specs.Facts.{explicit_source}
use Rattle.clap.specs.Takes.{is_given}
use Rattle.clap.specs.Walk.{arg_by_long, arg_by_short, has_row, one_of, row_text, with_default, with_values}
use Rattle.clap.specs.Kinds.{Kinds, or_else}
use Rattle.clap.specs.declared.builder.value_parser.Reading.TheVariants.{AsWritten}
use Rattle.clap.specs.declared.error.kind.ErrorKind.TheVariants as kind
use Rattle.clap.specs.declared.parser.matches.ValueSource.TheVariants.{DefaultValue}
use Rattle.clap.proofs.OnLiterals.{clap_on_literals}
use Rattle.aa_profile_parsing.specs.Languages.{language_named, word_of}
use Rattle.aa_profile_parsing.specs.declared.language.Language.{Language}
use Rattle.aa_profile_parsing.specs.declared.language.Language.TheVariants.{Four, Three}
use Rattle.aa_start.specs.Arguments.{ForRun, Run, asked, asked_at_end, asked_by_language, asked_in, asked_with, bare_run, below, complain_letter, forced, language_name, read_by, run_options, with_names}
use Rattle.aa_start.specs.Plan.{run_of}
use Rattle.aa_start.specs.CommandLine.{base_rule, command_line, complain_rule, language_rule, name_rule}

abbrev complain_id : Text
complain_id = codes "COMPLAIN"

abbrev base_id : Text
base_id = codes "DIR"

abbrev name_id : Text
name_id = codes "NAME"

abbrev language_id : Text
language_id = codes "LANGUAGE"

-- the rules as `clap` builds them
abbrev rules : List Rule
rules = (built command_line).top.rules

abbrev name_built : Rule
name_built = with_index 1 (filled name_rule)

abbrev base_built : Rule
base_built = with_index 1 (filled base_rule)

abbrev complain_built : Rule
complain_built = with_index 1 (filled complain_rule)

abbrev language_built : Rule
language_built = with_index 1 (filled language_rule)

-- the rows are those of the run
abbrev pub default_language : Text
default_language = word_of Three

abbrev Shows : Run → List Row → Type 0
Shows run rows = ShowsWords name_id run.names rows × ShowsFlag complain_id run.force_complain rows
    × ((base : Option Text) × ShowsValue base_id base rows × (run.base ≡ unwrap_or base default_base))
    × ((language : Option Text) × ShowsValue language_id language rows × (run.language ≡ unwrap_or language default_language))

pub is_free : is_simple_and_free command_line ≡ true
unfolding clap_on_literals
is_free = refl

pub is_simple_line : is_simple command_line ≡ true
is_simple_line = refl

-- ---- each option

takes_base : TakesValue rules name_built base_built
takes_base = record {
  most = refl;
  found = refl;
  other = refl;
  one = λ folder rows. let again = repeat_passes base_id rows in rw again refl;
  none = λ rows. refl;
}

takes_language : TakesValue rules name_built language_built
takes_language = record {
  most = refl;
  found = refl;
  other = refl;
  one = λ word rows. let again = repeat_passes language_id rows in rw again refl;
  none = λ rows. refl;
}

shows_forced : (run : Run) (rows : List Row) → Shows run rows → Shows (forced run) (replaced complain_id (codes "true") rows)
shows_forced run rows h = (
  other_replaced complain_id name_id (codes "true") rows refl ∙ h.0,
  flag_replaced complain_id run.force_complain rows h.1,
  (h.2.0, other_replaced complain_id base_id (codes "true") rows refl ∙ h.2.1, h.2.2),
  (h.3.0, other_replaced complain_id language_id (codes "true") rows refl ∙ h.3.1, h.3.2),
)

shows_below : (folder : Text) (run : Run) (rows : List Row) → Shows run rows → Shows (below folder run) (replaced base_id folder rows)
shows_below folder run rows h = (
  other_replaced base_id name_id folder rows refl ∙ h.0,
  other_replaced base_id complain_id folder rows refl ∙ h.1,
  (Some folder, value_replaced base_id h.2.0 folder rows h.2.1, refl),
  (h.3.0, other_replaced base_id language_id folder rows refl ∙ h.3.1, h.3.2),
)

shows_read_by : (word : Text) (run : Run) (rows : List Row) → Shows run rows → Shows (read_by word run) (replaced language_id word rows)
shows_read_by word run rows h = (
  other_replaced language_id name_id word rows refl ∙ h.0,
  other_replaced language_id complain_id word rows refl ∙ h.1,
  (h.2.0, other_replaced language_id base_id word rows refl ∙ h.2.1, h.2.2),
  (Some word, value_replaced language_id h.3.0 word rows h.3.1, refl),
)

shows_named : (name : Text) (run : Run) (rows : List Row) → Shows run rows → Shows (with_names (name ∷ []) run) (appended name_id name rows)
shows_named name run rows h = (
  words_appended name_id run.names name rows h.0,
  other_appended name_id complain_id name rows refl ∙ h.1,
  (h.2.0, other_appended name_id base_id name rows refl ∙ h.2.1, h.2.2),
  (h.3.0, other_appended name_id language_id name rows refl ∙ h.3.1, h.3.2),
)

by_letter : (x : ℕ) → IsDoneBy Shows rules name_built (run_options.by_letter x) (arg_by_short rules x)
by_letter x = by (complain_letter == x) refl (base_letter == x) refl (help_letter == x) refl (version_letter == x) refl
  where
    by : (c : Bool) → (complain_letter == x) ≡ c → (b : Bool) → (base_letter == x) ≡ b → (h : Bool) → (help_letter == x) ≡ h
        → (v : Bool) → (version_letter == x) ≡ v → IsDoneBy Shows rules name_built (run_options.by_letter x) (arg_by_short rules x)
    by true c b bb h hh v vv = rw c (refl, (λ rows. let again = repeat_passes complain_id rows in rw again refl), shows_forced)
    by false c true b h hh v vv = rw (c, b) (takes_base, shows_below)
    by false c false b true h v vv = rw (c, b, h) (refl, λ rows. refl)
    by false c false b false h true v = rw (c, b, h, v) (refl, λ rows. refl)
    by false c false b false h false v = rw (c, b, h, v) tt

by_name : (name : Text) → IsDoneBy Shows rules name_built (run_options.by_name name) (arg_by_long rules name)
by_name name = by (bytes_eq language_name name) refl (bytes_eq (codes "help") name) refl (bytes_eq (codes "version") name) refl
  where
    by : (l : Bool) → bytes_eq language_name name ≡ l → (h : Bool) → bytes_eq (codes "help") name ≡ h → (v : Bool) → bytes_eq (codes "version") name ≡ v
        → IsDoneBy Shows rules name_built (run_options.by_name name) (arg_by_long rules name)
    by true l h hh v vv = rw l (takes_language, shows_read_by)
    by false l true h v vv = rw (l, h) (refl, λ rows. refl)
    by false l false h true v = rw (l, h, v) (refl, λ rows. refl)
    by false l false h false v = rw (l, h, v) tt

one_byte : (x : ℕ) → GoesOn (run_options.by_letter x) → length (encode_utf8 x) ≡ 1
unfolding encode_utf8
one_byte x goes = elim (eqb_tells complain_letter x) [
  | inl c ↦ subst (λ x. length (encode_utf8 x) ≡ 1) c.1 refl
  | inr c ↦ elim (eqb_tells base_letter x) [
    | inl b ↦ subst (λ x. length (encode_utf8 x) ≡ 1) b.1 refl
    | inr b ↦ absurd (other c.0 b.0 (help_letter == x) refl (version_letter == x) refl goes)
  ]
]
  where
    other : (complain_letter == x) ≡ false → (base_letter == x) ≡ false → (h : Bool) → (help_letter == x) ≡ h → (v : Bool) → (version_letter == x) ≡ v
        → GoesOn (run_options.by_letter x) → ⊥
    other c b true h v vv goes = rw (c, b, h) at goes
    other c b false h true v goes = rw (c, b, h, v) at goes
    other c b false h false v goes = rw (c, b, h, v) at goes

-- more names are behind those that there are
pub no_names : (run : Run) → with_names [] run ≡ run
no_names run = ap (λ (names : List Text). record run { names = names }) (append-nil run.names)

pub names_in_turn : (name : Text) (more : List Text) (run : Run) → with_names more (with_names (name ∷ []) run) ≡ with_names (name ∷ more) run
names_in_turn name more run = ap (λ (names : List Text). record run { names = names }) (append_assoc run.names (name ∷ []) more)

-- ---- the mode's default

abbrev rest_built : List Rule
rest_built = drop 1 rules

-- the rows once the mode has its default
abbrev with_mode : List Row → List Row
with_mode rows = with_default rows complain_built

mode_default_passes : (rows : List Row) → default_fault rows complain_built ≡ []
mode_default_passes rows = by (has_row complain_id rows) refl
  where
    by : (b : Bool) → has_row complain_id rows ≡ b → default_fault rows complain_built ≡ []
    by true e = rw e refl
    by false e = rw e refl

no_more_defaults : (rows : List Row) → (fold with_default rows rest_built ≡ rows) × (defaults_fault rows rest_built ≡ [])
no_more_defaults rows = no_defaults rest_built rows (refl, (refl, (refl, (refl, (refl, tt)))))

defaults_pass : (rows : List Row) → defaults_fault rows rules ≡ []
unfolding defaults_fault
defaults_pass rows = ap₂ or_else (mode_default_passes rows) (no_more_defaults (with_mode rows)).1

defaults_are : (rows : List Row) → with_defaults command_line rows ≡ with_mode rows
defaults_are rows = (no_more_defaults (with_mode rows)).0

-- another argument's rows are those from before the default
other_mode : (id : Text) (rows : List Row) → bytes_eq complain_id id ≡ false → picked id (with_mode rows) ≡ picked id rows
other_mode id rows d = by (has_row complain_id rows) refl
  where
    by : (b : Bool) → has_row complain_id rows ≡ b → picked id (with_mode rows) ≡ picked id rows
    by true e = rw e refl
    by false e = rw e (other_with complain_id id AsWritten DefaultValue (codes "false" ∷ []) rows d)

-- a truth as the text that `clap` has of it
abbrev pub truth : Bool → Text
truth true = codes "true"
truth false = codes "false"

mode_shown : (force : Bool) (rows : List Row) → ShowsFlag complain_id force rows → one_of complain_id (with_mode rows) ≡ Some (truth force)
mode_shown true rows h =
    let there : has_row complain_id rows ≡ true = has_picked complain_id rows ∙ ap (λ l. is_some (first_row l)) h in
    let kept : with_mode rows ≡ rows = rw there refl in
    ap (option_and_then row_text) (found_picked complain_id (with_mode rows) ∙ ap (λ l. first_row (picked complain_id l)) kept ∙ ap first_row h)
mode_shown false rows h =
    let there : has_row complain_id rows ≡ false = has_picked complain_id rows ∙ ap (λ l. is_some (first_row l)) h in
    let kept : with_mode rows ≡ with_values complain_id AsWritten DefaultValue (codes "false" ∷ []) rows = rw there refl in
    ap (option_and_then row_text) (found_picked complain_id (with_mode rows) ∙ ap (λ l. first_row (picked complain_id l)) kept
    ∙ ap first_row (picked_with complain_id AsWritten DefaultValue (codes "false" ∷ []) rows ∙ ap (with_values complain_id AsWritten DefaultValue (codes "false" ∷ [])) h))

-- ---- a name has to be there

-- whether there is a name
abbrev has_names : List Text → Bool
has_names [] = false
has_names (n ∷ ns) = true

-- the fault where a name is missing
abbrev missing : List Text → Kinds
missing [] = kind.MissingRequiredArgument ∷ []
missing (n ∷ ns) = []

names_found : (ns : List Text) (rows : List Row) → ShowsWords name_id ns rows → find (λ r. bytes_eq r.id name_id) (with_mode rows) ≡ first_row (word_rows name_id ns)
names_found ns rows h = found_picked name_id (with_mode rows) ∙ ap first_row (other_mode name_id rows refl ∙ h)

names_given : (ns : List Text) (rows : List Row) → ShowsWords name_id ns rows → is_given name_id (with_mode rows) ≡ has_names ns
names_given [] rows h = ap (λ (o : Option Row). option_map_or (λ (r : Row). explicit_source r.source) o false) (names_found [] rows h)
names_given (n ∷ ns) rows h = ap (λ (o : Option Row). option_map_or (λ (r : Row). explicit_source r.source) o false) (names_found (n ∷ ns) rows h)

check_names : (ns : List Text) (rows : List Row) → ShowsWords name_id ns rows → check_fault (built command_line).top (with_mode rows) false ≡ missing ns
check_names [] rows h = let given = names_given [] rows h in rw given refl
check_names (n ∷ ns) rows h = let given = names_given (n ∷ ns) rows h in rw given refl

-- ---- all words

reads : Reads run_options command_line Shows
reads = record {
  words = name_built;
  bare = bare_run;
  simple = is_simple_line;
  free = is_free;
  subs = refl;
  own_name = refl;
  again = refl;
  by_letter = by_letter;
  by_name = by_name;
  one_byte = one_byte;
  found = refl;
  placed = refl;
  several = refl;
  multiple = refl;
  free_words = refl;
  passes = λ first more rows fits. ap₂ or_else (range_fits (length (first ∷ more)) (omega arith) fits) (texts_pass (first ∷ more));
  in_turn = λ first more last rows. values_twice name_id AsWritten (first ∷ more) (last ∷ []) rows;
  shows_bare = (refl, refl, (None, refl, refl), (None, refl, refl));
  shows_word = shows_named;
  none_more = no_names;
  one_more = names_in_turn;
  defaults = defaults_pass;
}

abbrev given_by : List Text → words.Asked Run
given_by given = words.asked_behind run_options (Open bare_run) given

given_read : (given : List Text) → length given ≤ usize_max → IsReadAs command_line Shows given (given_by given)
unfolding reads
given_read given fits = words_are_read run_options command_line Shows reads given fits

-- a run without a name is at fault
fault_at_end : (given : List Text) (run : Run) (rows : List Row) → Shows run rows
    → fault_of command_line given ≡ check_fault (built command_line).top (with_defaults command_line rows) false → fault_of command_line given ≡ missing run.names
fault_at_end given run rows shows is =
    is ∙ ap (λ rows. check_fault (built command_line).top rows false) (defaults_are rows) ∙ check_names run.names rows shows.0

-- what words ask for, whatever their language is
abbrev pub asked_anyhow : List Text → words.Asked Run
asked_anyhow given = words.asked_then (λ run. asked_with run.names run) (given_by given)

-- it is asked for by a language
pub asked_is : (given : List Text) → asked given ≡ words.asked_then asked_by_language (asked_anyhow given)
asked_is given = by (given_by given)
  where
    by : (a : words.Asked Run) → words.asked_then asked_at_end a ≡ words.asked_then asked_by_language (words.asked_then (λ run. asked_with run.names run) a)
    by (words.ForThis run) = refl
    by words.ForHelp = refl
    by words.ForVersion = refl
    by words.Nothing = refl

-- a fault of what is asked for is one of it by a language
pub fault_by_language : (a : words.Asked Run) (fault : ArgumentFault) → IsGivenFor run_of a (Err fault) → IsGivenFor run_of (words.asked_then asked_by_language a) (Err fault)
fault_by_language (words.ForThis run) Memory is = by (language_named run.language)
  where
    by : (language : Option Language) → IsGivenFor run_of (asked_in language run) (Err Memory)
    by None = tt
    by (Some language) = tt
fault_by_language (words.ForThis run) (Help text) is = absurd is
fault_by_language (words.ForThis run) (Version text) is = absurd is
fault_by_language (words.ForThis run) Bad is = absurd is
fault_by_language words.ForHelp fault is = is
fault_by_language words.ForVersion fault is = is
fault_by_language words.Nothing fault is = is

-- the word of the language of a word is that word
pub word_named : (word : Text) (language : Language) → language_named word ≡ Some language → word_of language ≡ word
word_named word language is = by (bytes_eq word (word_of Three)) refl (bytes_eq word (word_of Four)) refl is
  where
    by : (three : Bool) → bytes_eq word (word_of Three) ≡ three → (four : Bool) → bytes_eq word (word_of Four) ≡ four
        → (if three then Some Three else if four then Some Four else None) ≡ Some language → word_of language ≡ word
    by true e four f h =
        let same : Three ≡ language = cc in
        ap word_of (sym same) ∙ sym ((bytes_eq-Decides word (word_of Three)).0 e)
    by false e true f h =
        let same : Four ≡ language = cc in
        ap word_of (sym same) ∙ sym ((bytes_eq-Decides word (word_of Four)).0 f)
    by false e false f h = absurd (cc)

-- the kinds of error are those for what is asked for
pub kinds_for : (given : List Text) → length given ≤ usize_max → AreKindsFor (asked_anyhow given) (fault_of command_line given)
kinds_for given fits = by (given_by given) (given_read given fits)
  where
    at_end : (ns : List Text) (run : Run) → fault_of command_line given ≡ missing ns → AreKindsFor (asked_with ns run) (fault_of command_line given)
    at_end [] run is = (kind.MissingRequiredArgument, is, refl)
    at_end (n ∷ ns) run is = is

    by : (a : words.Asked Run) → IsReadAs command_line Shows given a → AreKindsFor (words.asked_then (λ run. asked_with run.names run) a) (fault_of command_line given)
    by (words.ForThis run) is = at_end run.names run (fault_at_end given run is.0 is.1 is.3)
    by words.ForHelp is = is
    by words.ForVersion is = is
    by words.Nothing is = is

-- the matches are those of the run
abbrev pub Matched : Run → List Text → Type 0
Matched run given = (unwrap_or (all_of name_id (matches_of command_line given)) [] ≡ run.names)
    × (one_of complain_id (matches_of command_line given) ≡ Some (truth run.force_complain))
    × (unwrap_or (first_of base_id (matches_of command_line given)) default_base ≡ run.base)
    × (unwrap_or (first_of language_id (matches_of command_line given)) default_language ≡ run.language)

run_matched : (run : Run) (given : List Text) (rows : List Row) → Shows run rows → matches_of command_line given ≡ with_mode rows → Matched run given
run_matched run given rows shows is = (
  ap (λ rows. unwrap_or (all_of name_id rows) []) is ∙ words_shown name_id run.names (with_mode rows) (other_mode name_id rows refl ∙ shows.0),
  ap (one_of complain_id) is ∙ mode_shown run.force_complain rows shows.1,
  ap (λ rows. unwrap_or (first_of base_id rows) default_base) is
      ∙ ap (λ base. unwrap_or base default_base) (value_shown base_id shows.2.0 (with_mode rows) (other_mode base_id rows refl ∙ shows.2.1)) ∙ sym shows.2.2,
  ap (λ rows. unwrap_or (first_of language_id rows) default_language) is
      ∙ ap (λ word. unwrap_or word default_language) (value_shown language_id shows.3.0 (with_mode rows) (other_mode language_id rows refl ∙ shows.3.1)) ∙ sym shows.3.2,
)

-- where there is no fault, the matches are those of the run that is asked for
pub matched : (given : List Text) → length given ≤ usize_max → fault_of command_line given ≡ [] → (run : Run) × (asked_anyhow given ≡ ForRun run) × Matched run given
matched given fits none = by (given_by given) (given_read given fits)
  where
    at_end : (ns : List Text) (at : Run) → fault_of command_line given ≡ missing ns → Matched at given
        → (run : Run) × (asked_with ns at ≡ ForRun run) × Matched run given
    at_end [] at is m = absurd (let bad : kind.MissingRequiredArgument ∷ [] ≡ [] = sym is ∙ none in cc)
    at_end (n ∷ ns) at is m = (at, refl, m)

    by : (a : words.Asked Run) → IsReadAs command_line Shows given a → (run : Run) × (words.asked_then (λ run. asked_with run.names run) a ≡ ForRun run) × Matched run given
    by (words.ForThis run) is =
        at_end run.names run (fault_at_end given run is.0 is.1 is.3) (run_matched run given is.0 is.1 (is.2 ∙ defaults_are is.0))
    by words.ForHelp is = absurd (let bad : kind.DisplayHelp ∷ [] ≡ [] = sym is ∙ none in cc)
    by words.ForVersion is = absurd (let bad : kind.DisplayVersion ∷ [] ≡ [] = sym is ∙ none in cc)
    by words.Nothing is = absurd (let bad : is.0 ∷ [] ≡ [] = sym is.1 ∙ none in cc)
