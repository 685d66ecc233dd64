-- What `clap` makes of the words behind `diff` is what they give.
use Rattle.std.proofs.Common.{◌≡◌, ◌∙◌, ◌≤◌, ℕ, Bool, true, false, List, [], ◌∷◌, length, append-nil, append_assoc, refl, ap, ap₂, arith, codes}
use Rattle.std.specs.Prelude.{◌==◌}
use Rattle.std.specs.Char.{encode_utf8}
use Rattle.std.specs.Str.{bytes_eq}
use Rattle.aa_start.specs.Lines.{GoesOn, IsDoneBy, Reads, TakesValue}
use Rattle.aa_start.specs.Options.{Open, help_letter}
use Rattle.aa_start.specs.Parsing.{IsReadAs}
use Rattle.aa_start.specs.Rows.{ShowsValue, ShowsWords}
use Rattle.aa_start.proofs.EndLemmas.{words_are_read}
use Rattle.aa_start.proofs.LineLemmas.{WantsNothing}
use Rattle.aa_start.proofs.RowLemmas.{appended, no_defaults, other_appended, other_replaced, range_fits, repeat_passes, replaced, texts_pass, value_replaced, values_twice, words_appended}
use Rattle.clap.specs.Lexer.{usize_max}
use Rattle.clap.specs.Words.{Row, Rule, Text, is_simple, is_simple_and_free}
use Rattle.clap.specs.Simple.{built, filled, with_index}
use Rattle.clap.specs.Walk.{arg_by_long, arg_by_short}
use Rattle.clap.specs.Kinds.{or_else}
use Rattle.clap.specs.declared.builder.value_parser.Reading.TheVariants.{AsWritten}
use Rattle.clap.proofs.OnLiterals.{clap_on_literals}
use Rattle.aatry_arguments.specs.DiffLine.{diff_line, folder_rule, log_rule, questions_rule}
use Rattle.aatry_arguments.specs.DiffWords.{DiffGiven, OfLog, OfQuestions, bare_given, diff_options, given_behind, with_folders, with_path}

abbrev log_id : Text
log_id = codes "LOG"

abbrev questions_id : Text
questions_id = codes "QUESTIONS"

abbrev folder_id : Text
folder_id = codes "FOLDER"

-- the rules as `clap` builds them
abbrev rules : List Rule
rules = (built diff_line).top.rules

abbrev folder_built : Rule
folder_built = with_index 1 (filled folder_rule)

abbrev log_built : Rule
log_built = with_index 1 (filled log_rule)

abbrev questions_built : Rule
questions_built = with_index 1 (filled questions_rule)

-- the rows are those of what is given
abbrev pub Shows : DiffGiven → List Row → Type 0
Shows given rows = ShowsWords folder_id given.folders rows × ShowsValue log_id given.log rows × ShowsValue questions_id given.questions rows

pub is_free : is_simple_and_free diff_line ≡ true
unfolding clap_on_literals
is_free = refl

pub is_simple_line : is_simple diff_line ≡ true
is_simple_line = refl

takes_log : TakesValue rules folder_built log_built
takes_log = record {
  most = refl;
  found = refl;
  other = refl;
  one = λ path rows. let again = repeat_passes log_id rows in rw again refl;
  none = λ rows. refl;
}

takes_questions : TakesValue rules folder_built questions_built
takes_questions = record {
  most = refl;
  found = refl;
  other = refl;
  one = λ path rows. let again = repeat_passes questions_id rows in rw again refl;
  none = λ rows. refl;
}

shows_log : (path : Text) (given : DiffGiven) (rows : List Row) → Shows given rows → Shows (with_path OfLog path given) (replaced log_id path rows)
shows_log path given rows h = (
  other_replaced log_id folder_id path rows refl ∙ h.0,
  value_replaced log_id given.log path rows h.1,
  other_replaced log_id questions_id path rows refl ∙ h.2,
)

shows_questions : (path : Text) (given : DiffGiven) (rows : List Row) → Shows given rows → Shows (with_path OfQuestions path given) (replaced questions_id path rows)
shows_questions path given rows h = (
  other_replaced questions_id folder_id path rows refl ∙ h.0,
  other_replaced questions_id log_id path rows refl ∙ h.1,
  value_replaced questions_id given.questions path rows h.2,
)

shows_folder : (folder : Text) (given : DiffGiven) (rows : List Row) → Shows given rows → Shows (with_folders (folder ∷ []) given) (appended folder_id folder rows)
shows_folder folder given rows h = (
  words_appended folder_id given.folders folder rows h.0,
  other_appended folder_id log_id folder rows refl ∙ h.1,
  other_appended folder_id questions_id folder rows refl ∙ h.2,
)

by_letter : (x : ℕ) → IsDoneBy Shows rules folder_built (diff_options.by_letter x) (arg_by_short rules x)
by_letter x = by (help_letter == x) refl
  where
    by : (h : Bool) → (help_letter == x) ≡ h → IsDoneBy Shows rules folder_built (diff_options.by_letter x) (arg_by_short rules x)
    by true h = rw h (refl, λ rows. refl)
    by false h = rw h tt

by_name : (name : Text) → IsDoneBy Shows rules folder_built (diff_options.by_name name) (arg_by_long rules name)
by_name name = by (bytes_eq (codes "log") name) refl (bytes_eq (codes "questions") name) refl (bytes_eq (codes "help") name) refl
  where
    by : (l : Bool) → bytes_eq (codes "log") name ≡ l → (q : Bool) → bytes_eq (codes "questions") name ≡ q → (h : Bool) → bytes_eq (codes "help") name ≡ h
        → IsDoneBy Shows rules folder_built (diff_options.by_name name) (arg_by_long rules name)
    by true l q qq h hh = rw l (takes_log, shows_log)
    by false l true q h hh = rw (l, q) (takes_questions, shows_questions)
    by false l false q true h = rw (l, q, h) (refl, λ rows. refl)
    by false l false q false h = rw (l, q, h) tt

one_byte : (x : ℕ) → GoesOn (diff_options.by_letter x) → length (encode_utf8 x) ≡ 1
one_byte x goes = absurd (none (help_letter == x) refl)
  where
    none : (h : Bool) → (help_letter == x) ≡ h → ⊥
    none true h = rw h at goes
    none false h = rw h at goes

-- more folders are behind those that there are
pub no_folders : (given : DiffGiven) → with_folders [] given ≡ given
no_folders given = ap (λ (folders : List Text). record given { folders = folders }) (append-nil given.folders)

pub folders_in_turn : (folder : Text) (more : List Text) (given : DiffGiven) → with_folders more (with_folders (folder ∷ []) given) ≡ with_folders (folder ∷ more) given
folders_in_turn folder more given = ap (λ (folders : List Text). record given { folders = folders }) (append_assoc given.folders (folder ∷ []) more)

reads : Reads diff_options diff_line Shows
reads = record {
  words = folder_built;
  bare = bare_given;
  simple = is_simple_line;
  free = is_free;
  subs = refl;
  own_name = refl;
  again = refl;
  by_letter = by_letter;
  by_name = by_name;
  one_byte = one_byte;
  found = refl;
  placed = refl;
  several = refl;
  multiple = refl;
  free_words = refl;
  passes = λ first more rows fits. ap₂ or_else (range_fits (length (first ∷ more)) (omega arith) fits) (texts_pass (first ∷ more));
  in_turn = λ first more last rows. values_twice folder_id AsWritten (first ∷ more) (last ∷ []) rows;
  shows_bare = (refl, refl, refl);
  shows_word = shows_folder;
  none_more = no_folders;
  one_more = folders_in_turn;
  defaults = λ rows. (no_defaults rules rows (refl, (refl, (refl, (refl, tt))))).1;
}

pub wants_nothing : WantsNothing diff_line
wants_nothing = ((λ rows. (no_defaults rules rows (refl, (refl, (refl, (refl, tt))))).0), λ rows. refl)

pub diff_read : (words : List Text) → length words ≤ usize_max → IsReadAs diff_line Shows words (given_behind (Open bare_given) words)
unfolding reads
diff_read words fits = words_are_read diff_options diff_line Shows reads words fits
