-- What holds of comparisons for all paths.
use Rattle.std.proofs.Common.{◌≡◌, ◌∙◌, ◌++◌, ℕ, Bool, true, false, List, [], ◌∷◌, Option, None, Some, append-nil, drop, take, refl, subst, sym, ap, codes}
use Rattle.std.specs.List.{list_all}
use Rattle.std.specs.Option.{option_map}
use Rattle.std.specs.Str.{bytes_eq, chars}
use Rattle.std.proofs.lemmas.Slice.Eq.{bytes_eq-Decides}
use Rattle.std.proofs.lemmas.List.{take-append-drop}
use Rattle.aa_bytes.specs.Texts.{begins_with}
use Rattle.aa_start.specs.Options.{Asked, ForThis, Nothing, Open, asked_as, asked_then, is_name, is_option}
use Rattle.aatry_arguments.specs.Arguments.{ForDiffAll, asked}
use Rattle.aatry_arguments.specs.DiffAllWords.{all_flag, asked_all, asked_by, asked_by_limit, asked_limited, asked_of, quiet_audit_flag, without_flags}
use Rattle.aatry_arguments.specs.DiffWords.{DiffGiven, OfLog, OfQuestions, bare_given, given_behind, stat_flag, with_folders, with_path}
use Rattle.aatry_arguments.specs.Flags.{is_given, without_flag}
use Rattle.aatry_arguments.specs.Languages.{ends_options}
use Rattle.aatry_arguments.specs.PathsWords.{PathsLimited, limit_option, limited_by}
use Rattle.aatry_arguments.specs.Values.{IsWithout, value_in, value_within, with_word}
use Rattle.aatry_words.specs.Numbers.{number_of}
use Rattle.aatry_arguments.proofs.DiffLawLemmas.{all_option, behind_path, folder_word, log_word, plain_words, questions_word, stat_option}
use Rattle.aatry_arguments.proofs.FlagLemmas.{dashes_option, names_alone, names_before, no_option, none_given}

-- the flag and the option are options
quiet_audit_option : is_option quiet_audit_flag ≡ true
unfolding chars
quiet_audit_option = refl

limit_word : is_option (codes "--limit") ≡ true
unfolding chars
limit_word = refl

limit_opening : (rest : List ℕ) → is_option (codes "--limit=" ++ rest) ≡ true
unfolding chars
limit_opening rest = refl

-- a word that is no option has no limit in it
no_limit_within : (word : List ℕ) → is_option word ≡ false → value_within (codes "--limit=") word ≡ None
no_limit_within word none = by (begins_with (codes "--limit=") word) refl
  where
    by : (b : Bool) → begins_with (codes "--limit=") word ≡ b → value_within (codes "--limit=") word ≡ None
    by false h = rw h refl
    by true h =
        let front = (bytes_eq-Decides (take 8 word) (codes "--limit=")).0 h in
        let whole : codes "--limit=" ++ drop 8 word ≡ word = ap (λ front. front ++ drop 8 word) (sym front) ∙ take-append-drop 8 word in
        let bad : true ≡ false = sym (limit_opening (drop 8 word)) ∙ ap is_option whole ∙ none in
        cc

-- ahead of words that name no limit, words that are no options name none either
no_limit_before : (value : Option (List ℕ)) (names words : List (List ℕ)) → list_all is_name names ≡ true
    → value_in limit_option (Some value) words ≡ Some (record { value = value; words = words })
    → value_in limit_option (Some value) (names ++ words) ≡ Some (record { value = value; words = names ++ words })
no_limit_before value [] words named none = none
no_limit_before value (name ∷ names) words named none = by (is_option name) refl (λ left. no_limit_before value names words left none)
  where
    by : (o : Bool) → is_option name ≡ o
        → (list_all is_name names ≡ true → value_in limit_option (Some value) (names ++ words) ≡ Some (record { value = value; words = names ++ words }))
        → value_in limit_option (Some value) (name ∷ names ++ words) ≡ Some (record { value = value; words = name ∷ names ++ words })
    by true o more = let bad : false ≡ true = rw o at named in cc
    by false o more =
        let left : list_all is_name names ≡ true = rw o at named in
        let on : ends_options name ≡ false = no_option (codes "--") name dashes_option o in
        let other : bytes_eq name (codes "--limit") ≡ false = no_option (codes "--limit") name limit_word o in
        rw (on, other, no_limit_within name o) (ap (option_map (with_word name)) (more left))

-- words that are no options name no limit
no_limit : (value : Option (List ℕ)) (names : List (List ℕ)) → list_all is_name names ≡ true
    → value_in limit_option (Some value) names ≡ Some (record { value = value; words = names })
no_limit value names named =
    subst (λ words. value_in limit_option (Some value) words ≡ Some (record { value = value; words = words })) (append-nil names)
    (no_limit_before value names [] named refl)

-- what words ask for, of which these name the limit, and among which no flag is given
limited_ask : (limit : ℕ) (words : List (List ℕ)) (given : Asked DiffGiven) → is_given stat_flag words ≡ false → is_given quiet_audit_flag words ≡ false
    → given_behind (Open bare_given) words ≡ given
    → asked_limited (record { limit = limit; words = words }) ≡ asked_then (asked_of false false limit) given
limited_ask limit words given stat quiet_audit is =
    ap (λ stat. asked_by stat (is_given quiet_audit_flag words) limit (without_flags words)) stat
    ∙ ap (λ quiet_audit. asked_by false quiet_audit limit (without_flags words)) quiet_audit
    ∙ ap (λ others. asked_by false false limit (without_flag quiet_audit_flag others)) (none_given stat_flag words stat)
    ∙ ap (asked_by false false limit) (none_given quiet_audit_flag words quiet_audit)
    ∙ ap (asked_then (asked_of false false limit)) is

-- what is asked for by words behind the flag, among which neither a flag nor the limit is given
words_ask : (words : List (List ℕ)) (given : Asked DiffGiven) → is_given all_flag words ≡ false → is_given stat_flag words ≡ false
    → is_given quiet_audit_flag words ≡ false → IsWithout limit_option words → given_behind (Open bare_given) words ≡ given
    → asked (codes "diff" ∷ codes "--all" ∷ words) ≡ asked_as ForDiffAll (asked_then (asked_of false false 262144) given)
unfolding asked_all
words_ask words given none stat quiet_audit without is =
    ap (λ words. asked_as ForDiffAll (asked_all words)) (none_given all_flag words none)
    ∙ ap (λ read. asked_as ForDiffAll (asked_by_limit (limited_by read))) without
    ∙ ap (asked_as ForDiffAll) (limited_ask 262144 words given stat quiet_audit is)

pub alone : asked (codes "diff" ∷ codes "--all" ∷ []) ≡ Nothing
unfolding asked_all
alone = refl

-- what is asked for by words that are no options
pub names_ask : (names : List (List ℕ)) → list_all is_name names ≡ true
    → asked (codes "diff" ∷ codes "--all" ∷ names) ≡ asked_as ForDiffAll (asked_of false false 262144 (with_folders names bare_given))
names_ask names named =
    words_ask names (ForThis (with_folders names bare_given)) (names_alone all_flag names all_option named) (names_alone stat_flag names stat_option named)
    (names_alone quiet_audit_flag names quiet_audit_option named) (no_limit None names named) (plain_words names bare_given named)

-- and by those and the value of an option behind them that is another
path_asks : (option old new path : List ℕ) (given : Asked DiffGiven) → is_option old ≡ false → is_option new ≡ false → is_option path ≡ false
    → ends_options option ≡ false → bytes_eq option all_flag ≡ false → bytes_eq option stat_flag ≡ false → bytes_eq option quiet_audit_flag ≡ false
    → bytes_eq option (codes "--limit") ≡ false → value_within (codes "--limit=") option ≡ None
    → given_behind (Open (with_folders (old ∷ new ∷ []) bare_given)) (option ∷ path ∷ []) ≡ given
    → asked (codes "diff" ∷ codes "--all" ∷ old ∷ new ∷ option ∷ path ∷ []) ≡ asked_as ForDiffAll (asked_then (asked_of false false 262144) given)
path_asks option old new path given o n p on no_all no_stat no_quiet_audit other within is =
    words_ask (old ∷ new ∷ option ∷ path ∷ []) given (no_flag all_flag all_option no_all) (no_flag stat_flag stat_option no_stat)
    (no_flag quiet_audit_flag quiet_audit_option no_quiet_audit) (no_limit_before None (old ∷ new ∷ []) (option ∷ path ∷ []) named behind)
    (folder_word (new ∷ option ∷ path ∷ []) old bare_given o ∙ folder_word (option ∷ path ∷ []) new (with_folders (old ∷ []) bare_given) n ∙ is)
  where
    named : list_all is_name (old ∷ new ∷ []) ≡ true
    named = rw (o, n) refl

    no_flag : (flag : List ℕ) → is_option flag ≡ true → bytes_eq option flag ≡ false → is_given flag (old ∷ new ∷ option ∷ path ∷ []) ≡ false
    no_flag flag is_flag other = names_before flag (old ∷ new ∷ []) (option ∷ path ∷ []) is_flag named (behind_path flag option path [] is_flag other on p refl)

    behind : IsWithout limit_option (option ∷ path ∷ [])
    behind = rw (on, other, within) (ap (option_map (with_word option)) (no_limit None (path ∷ []) (rw p refl)))

pub by_log : (old new path : List ℕ) → is_option old ≡ false → is_option new ≡ false → is_option path ≡ false
    → asked (codes "diff" ∷ codes "--all" ∷ old ∷ new ∷ codes "--log" ∷ path ∷ []) ≡ Nothing
by_log old new path o n p =
    path_asks (codes "--log") old new path (ForThis (with_path OfLog path (with_folders (old ∷ new ∷ []) bare_given))) o n p refl refl refl refl refl refl
    (log_word [] path (with_folders (old ∷ new ∷ []) bare_given) p)

pub by_questions : (old new path : List ℕ) → is_option old ≡ false → is_option new ≡ false → is_option path ≡ false
    → asked (codes "diff" ∷ codes "--all" ∷ old ∷ new ∷ codes "--questions" ∷ path ∷ []) ≡ Nothing
by_questions old new path o n p =
    path_asks (codes "--questions") old new path (ForThis (with_path OfQuestions path (with_folders (old ∷ new ∷ []) bare_given))) o n p refl refl refl refl refl
    refl (questions_word [] path (with_folders (old ∷ new ∷ []) bare_given) p)

-- words without a flag don't give it
none_left : (flag : List ℕ) (words : List (List ℕ)) → is_given flag (without_flag flag words) ≡ false
none_left flag [] = refl
none_left flag (word ∷ words) = by (ends_options word) refl (bytes_eq word flag) refl (none_left flag words)
  where
    by : (e : Bool) → ends_options word ≡ e → (f : Bool) → bytes_eq word flag ≡ f → is_given flag (without_flag flag words) ≡ false
        → is_given flag (without_flag flag (word ∷ words)) ≡ false
    by true e f ff left = rw (e, e) refl
    by false e true f left = rw (e, f) left
    by false e false f left = rw (e, f, e, f) left

-- what words ask for among which the flag is
pub anywhere : (words : List (List ℕ)) → is_given all_flag words ≡ true
    → asked (codes "diff" ∷ words) ≡ asked (codes "diff" ∷ codes "--all" ∷ without_flag all_flag words)
anywhere words given =
    by_all given ∙ ap (λ others. asked_as ForDiffAll (asked_all others)) (sym (none_given all_flag (without_flag all_flag words) (none_left all_flag words)))
  where
    by_all : is_given all_flag words ≡ true → asked (codes "diff" ∷ words) ≡ asked_as ForDiffAll (asked_all (without_flag all_flag words))
    by_all given = rw given refl

pub flags : (words : List (List ℕ)) (stat quiet_audit : Bool) → IsWithout limit_option words → is_given stat_flag words ≡ stat
    → is_given quiet_audit_flag words ≡ quiet_audit → asked_all words ≡ asked_by stat quiet_audit 262144 (without_flags words)
unfolding asked_all
flags words stat quiet_audit without s q =
    ap (λ read. asked_by_limit (limited_by read)) without
    ∙ ap (λ stat. asked_by stat (is_given quiet_audit_flag words) 262144 (without_flags words)) s
    ∙ ap (λ quiet_audit. asked_by stat quiet_audit 262144 (without_flags words)) q

-- the limit that a number names, with words
abbrev pub limited_with : List (List ℕ) → Option ℕ → Option PathsLimited
limited_with words limit = option_map (λ limit. record { limit = limit; words = words }) limit

-- what is asked for by a number in the word of the limit and words that are no options
pub number_asks : (number : List ℕ) (names : List (List ℕ)) (limit : Option ℕ) → number_of number ≡ limit → list_all is_name names ≡ true
    → asked (codes "diff" ∷ codes "--all" ∷ (codes "--limit=" ++ number) ∷ names) ≡ asked_as ForDiffAll (asked_by_limit (limited_with names limit))
unfolding asked_all
number_asks number names limit is named =
    ap (λ others. asked_as ForDiffAll (asked_all ((codes "--limit=" ++ number) ∷ others))) (none_given all_flag names (names_alone all_flag names all_option named))
    ∙ ap (λ read. asked_as ForDiffAll (asked_by_limit (limited_by read))) (no_limit (Some number) names named)
    ∙ ap (λ limit. asked_as ForDiffAll (asked_by_limit (limited_with names limit))) is

pub limited : (number : List ℕ) (names : List (List ℕ)) (limit : ℕ) → number_of number ≡ Some limit → list_all is_name names ≡ true
    → asked (codes "diff" ∷ codes "--all" ∷ (codes "--limit=" ++ number) ∷ names)
    ≡ asked_as ForDiffAll (asked_of false false limit (with_folders names bare_given))
limited number names limit is named =
    number_asks number names (Some limit) is named
    ∙ ap (asked_as ForDiffAll) (limited_ask limit names (ForThis (with_folders names bare_given)) (names_alone stat_flag names stat_option named)
    (names_alone quiet_audit_flag names quiet_audit_option named) (plain_words names bare_given named))
