-- What holds of comparisons.
use Rattle.std.proofs.Common.{◌≡◌, ◌∙◌, ◌++◌, ℕ, true, false, List, [], ◌∷◌, None, Some, refl, ap, codes}
use Rattle.std.specs.List.{list_all}
use Rattle.std.specs.Str.{bytes_eq, chars}
use Rattle.aa_start.specs.Options.{Open, is_name, is_option}
use Rattle.aa_start.proofs.PlainLemmas.{plain_word, plain_words as words_plain}
use Rattle.aatry_arguments.proofs.DiffLemmas.{folders_in_turn, no_folders}
use Rattle.aatry_arguments.specs.Arguments.{ForDiff, asked}
use Rattle.aa_start.specs.Options.{Asked, ForThis, Nothing, asked_as, asked_then}
use Rattle.aatry_arguments.specs.DiffAllWords.{all_flag}
use Rattle.aatry_arguments.specs.DiffWords.{DiffGiven, LogAt, OfLog, OfQuestions, QuestionsAt, asked_by, asked_diff, asked_of, bare_given, comparison_with, diff_options, given_behind, stat_flag, with_folders, with_path}
use Rattle.aatry_arguments.specs.Flags.{is_given, without_flag}
use Rattle.aatry_arguments.specs.Languages.{ends_options}
use Rattle.aatry_arguments.proofs.FlagLemmas.{names_before, none_given}

-- a word that is no option is one more folder
pub folder_word : (words : List (List ℕ)) (word : List ℕ) (given : DiffGiven) → is_option word ≡ false
    → given_behind (Open given) (word ∷ words) ≡ given_behind (Open (with_folders (word ∷ []) given)) words
folder_word words word given o = plain_word diff_options word words given o

pub plain_words : (words : List (List ℕ)) (given : DiffGiven) → list_all is_name words ≡ true → given_behind (Open given) words ≡ ForThis (with_folders words given)
plain_words words given h = words_plain diff_options no_folders folders_in_turn words given h

pub log_word : (words : List (List ℕ)) (path : List ℕ) (given : DiffGiven) → is_option path ≡ false
    → given_behind (Open given) (codes "--log" ∷ path ∷ words) ≡ given_behind (Open (with_path OfLog path given)) words
unfolding chars
log_word words path given o = rw o refl

pub questions_word : (words : List (List ℕ)) (path : List ℕ) (given : DiffGiven) → is_option path ≡ false
    → given_behind (Open given) (codes "--questions" ∷ path ∷ words) ≡ given_behind (Open (with_path OfQuestions path given)) words
unfolding chars
questions_word words path given o = rw o refl

pub log_in_word : (words : List (List ℕ)) (path : List ℕ) (given : DiffGiven)
    → given_behind (Open given) ((codes "--log=" ++ path) ∷ words) ≡ given_behind (Open (with_path OfLog path given)) words
unfolding chars
log_in_word words path given = refl

pub questions_in_word : (words : List (List ℕ)) (path : List ℕ) (given : DiffGiven)
    → given_behind (Open given) ((codes "--questions=" ++ path) ∷ words) ≡ given_behind (Open (with_path OfQuestions path given)) words
unfolding chars
questions_in_word words path given = refl

pub last_log : (words : List (List ℕ)) (first last : List ℕ) (given : DiffGiven) → is_option first ≡ false → is_option last ≡ false
    → given_behind (Open given) (codes "--log" ∷ first ∷ codes "--log" ∷ last ∷ words) ≡ given_behind (Open (with_path OfLog last given)) words
last_log words first last given f l = log_word (codes "--log" ∷ last ∷ words) first given f ∙ log_word words last (with_path OfLog first given) l

pub last_questions : (words : List (List ℕ)) (first last : List ℕ) (given : DiffGiven) → is_option first ≡ false → is_option last ≡ false
    → given_behind (Open given) (codes "--questions" ∷ first ∷ codes "--questions" ∷ last ∷ words) ≡ given_behind (Open (with_path OfQuestions last given)) words
last_questions words first last given f l =
    questions_word (codes "--questions" ∷ last ∷ words) first given f ∙ questions_word words last (with_path OfQuestions first given) l

-- the flags are options
pub stat_option : is_option stat_flag ≡ true
unfolding chars
stat_option = refl

pub all_option : is_option all_flag ≡ true
unfolding chars
all_option = refl

-- what is asked for by words without `--all`
pub not_all : (words : List (List ℕ)) → is_given all_flag words ≡ false → asked (codes "diff" ∷ words) ≡ asked_as ForDiff (asked_diff words)
not_all words none = rw none refl

-- and by words without `--stat` too
without_flags : (words : List (List ℕ)) → is_given all_flag words ≡ false → is_given stat_flag words ≡ false
    → asked (codes "diff" ∷ words) ≡ asked_as ForDiff (asked_by false words)
without_flags words none no_stat =
    not_all words none
    ∙ ap (λ stat. asked_as ForDiff (asked_by stat (without_flag stat_flag words))) no_stat
    ∙ ap (λ others. asked_as ForDiff (asked_by false others)) (none_given stat_flag words no_stat)

-- what is asked for by words behind two folders
behind_folders : (words : List (List ℕ)) (old new : List ℕ) (given : Asked DiffGiven) → is_option old ≡ false → is_option new ≡ false
    → is_given all_flag words ≡ false → is_given stat_flag words ≡ false
    → given_behind (Open (with_folders (old ∷ new ∷ []) bare_given)) words ≡ given
    → asked (codes "diff" ∷ old ∷ new ∷ words) ≡ asked_as ForDiff (asked_then (asked_of false) given)
behind_folders words old new given o n none no_stat h =
    without_flags (old ∷ new ∷ words) (names_before all_flag (old ∷ new ∷ []) words all_option (both o n) none)
    (names_before stat_flag (old ∷ new ∷ []) words stat_option (both o n) no_stat)
    ∙ ap (λ (a : Asked DiffGiven). asked_as ForDiff (asked_then (asked_of false) a))
    (folder_word (new ∷ words) old bare_given o ∙ folder_word words new (with_folders (old ∷ []) bare_given) n ∙ h)
  where
    both : is_option old ≡ false → is_option new ≡ false → list_all is_name (old ∷ new ∷ []) ≡ true
    both o n = rw (o, n) refl

-- behind an option and its path a flag isn't given, if it isn't behind these
pub behind_path : (flag option path : List ℕ) (words : List (List ℕ)) → is_option flag ≡ true → bytes_eq option flag ≡ false → ends_options option ≡ false
    → is_option path ≡ false → is_given flag words ≡ false → is_given flag (option ∷ path ∷ words) ≡ false
behind_path flag option path words is other on p none =
    let behind : is_given flag (path ∷ words) ≡ false = names_before flag (path ∷ []) words is (rw p refl) none in
    rw (other, on) behind

pub compared_by_none : (old new : List ℕ) → is_option old ≡ false → is_option new ≡ false
    → asked (codes "diff" ∷ old ∷ new ∷ []) ≡ ForThis (ForDiff (comparison_with old new None false))
compared_by_none old new o n = behind_folders [] old new (ForThis (with_folders (old ∷ new ∷ []) bare_given)) o n refl refl refl

pub compared_by_log : (old new path : List ℕ) → is_option old ≡ false → is_option new ≡ false → is_option path ≡ false
    → asked (codes "diff" ∷ old ∷ new ∷ codes "--log" ∷ path ∷ []) ≡ ForThis (ForDiff (comparison_with old new (Some (LogAt path)) false))
compared_by_log old new path o n p =
    behind_folders (codes "--log" ∷ path ∷ []) old new (ForThis (with_path OfLog path (with_folders (old ∷ new ∷ []) bare_given))) o n
    (behind_path all_flag (codes "--log") path [] all_option refl refl p refl) (behind_path stat_flag (codes "--log") path [] stat_option refl refl p refl)
    (log_word [] path (with_folders (old ∷ new ∷ []) bare_given) p)

pub compared_by_questions : (old new path : List ℕ) → is_option old ≡ false → is_option new ≡ false → is_option path ≡ false
    → asked (codes "diff" ∷ old ∷ new ∷ codes "--questions" ∷ path ∷ []) ≡ ForThis (ForDiff (comparison_with old new (Some (QuestionsAt path)) false))
compared_by_questions old new path o n p =
    behind_folders (codes "--questions" ∷ path ∷ []) old new (ForThis (with_path OfQuestions path (with_folders (old ∷ new ∷ []) bare_given))) o n
    (behind_path all_flag (codes "--questions") path [] all_option refl refl p refl)
    (behind_path stat_flag (codes "--questions") path [] stat_option refl refl p refl)
    (questions_word [] path (with_folders (old ∷ new ∷ []) bare_given) p)

pub compared_by_both : (old new log questions : List ℕ) → is_option old ≡ false → is_option new ≡ false → is_option log ≡ false → is_option questions ≡ false
    → asked (codes "diff" ∷ old ∷ new ∷ codes "--log" ∷ log ∷ codes "--questions" ∷ questions ∷ []) ≡ Nothing
compared_by_both old new log questions o n l q =
    let given = with_folders (old ∷ new ∷ []) bare_given in
    behind_folders (codes "--log" ∷ log ∷ codes "--questions" ∷ questions ∷ []) old new (ForThis (with_path OfQuestions questions (with_path OfLog log given))) o n
    (no_flag all_flag all_option refl refl) (no_flag stat_flag stat_option refl refl)
    (log_word (codes "--questions" ∷ questions ∷ []) log given l ∙ questions_word [] questions (with_path OfLog log given) q)
  where
    no_flag : (flag : List ℕ) → is_option flag ≡ true → bytes_eq (codes "--log") flag ≡ false → bytes_eq (codes "--questions") flag ≡ false
        → is_given flag (codes "--log" ∷ log ∷ codes "--questions" ∷ questions ∷ []) ≡ false
    no_flag flag is by_log by_questions =
        behind_path flag (codes "--log") log (codes "--questions" ∷ questions ∷ []) is by_log refl l
        (behind_path flag (codes "--questions") questions [] is by_questions refl q refl)
