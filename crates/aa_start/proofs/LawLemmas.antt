-- What holds of runs.
use Rattle.std.proofs.Common.{◌≡◌, ◌<◌, ℕ, true, false, List, [], ◌∷◌, length, refl, ap, subst, arith, codes}
use Rattle.std.specs.List.{list_all}
use Rattle.std.specs.Prelude.{None, Option, Some}
use Rattle.aa_profile_parsing.specs.Languages.{language_named}
use Rattle.aa_profile_parsing.specs.declared.language.Language.{Language}
use Rattle.aa_profile_parsing.specs.declared.language.Language.TheVariants.{Three}
use Rattle.std.specs.Str.{chars}
use Rattle.aa_start.specs.Options as words
use Rattle.aa_start.specs.Options.{Open, is_name, is_option}
use Rattle.aa_start.proofs.PlainLemmas.{plain_words as words_plain}
use Rattle.aa_start.specs.Arguments.{ForHelp, ForRun, ForVersion, Nothing, Run, asked, asked_at_end, asked_behind, asked_by_language, asked_in, asked_with, bare_run, below, forced, read_by, run_options, with_names}
use Rattle.aa_start.specs.Plan.{run_with}
use Rattle.aa_start.proofs.RunLemmas.{names_in_turn, no_names}

-- a run by a language has the names that it had
named_in : (language : Option Language) (n : List ℕ) (ns : List (List ℕ)) (at run : Run) → at.names ≡ n ∷ ns → asked_in language at ≡ ForRun run → 0 < length run.names
named_in None n ns at run is h = absurd (let bad : Nothing ≡ ForRun run = h in cc)
named_in (Some language) n ns at run is h =
    let same : at ≡ run = cc in
    subst (λ (r : Run). 0 < length r.names) same (rw is (omega arith))

-- a run at the end has a name
named_at_end : (ns : List (List ℕ)) (at run : Run) → at.names ≡ ns → words.asked_then asked_by_language (asked_with ns at) ≡ ForRun run → 0 < length run.names
named_at_end [] at run is h = absurd (let bad : Nothing ≡ ForRun run = h in cc)
named_at_end (n ∷ ns) at run is h = named_in (language_named at.language) n ns at run is h

pub each_run_is_named : (words : List (List ℕ)) (run : Run) → asked words ≡ ForRun run → 0 < length run.names
each_run_is_named given run h = by (words.asked_behind run_options (Open bare_run) given) h
  where
    by : (a : words.Asked Run) → words.asked_then asked_at_end a ≡ ForRun run → 0 < length run.names
    by (words.ForThis at) h = named_at_end at.names at run refl h
    by words.ForHelp h = absurd (let bad : ForHelp ≡ ForRun run = h in cc)
    by words.ForVersion h = absurd (let bad : ForVersion ≡ ForRun run = h in cc)
    by words.Nothing h = absurd (let bad : Nothing ≡ ForRun run = h in cc)

pub plain_words : (words : List (List ℕ)) (run : Run) → list_all is_name words ≡ true → asked_behind (Open run) words ≡ asked_at_end (with_names words run)
plain_words given run h = ap (words.asked_then asked_at_end) (words_plain run_options no_names names_in_turn given run h)

pub mode_word : (words : List (List ℕ)) (run : Run) → asked_behind (Open run) (codes "-C" ∷ words) ≡ asked_behind (Open (forced run)) words
unfolding chars
mode_word words run = refl

pub base_word : (words : List (List ℕ)) (folder : List ℕ) (run : Run) → is_option folder ≡ false
    → asked_behind (Open run) (codes "-b" ∷ folder ∷ words) ≡ asked_behind (Open (below folder run)) words
unfolding chars
base_word words folder run o = rw o refl

pub language_word : (words : List (List ℕ)) (word : List ℕ) (run : Run) → is_option word ≡ false
    → asked_behind (Open run) (codes "--language" ∷ word ∷ words) ≡ asked_behind (Open (read_by word run)) words
unfolding chars
language_word words word run o = rw o refl

pub both_words : asked (codes "-C" ∷ codes "-b" ∷ codes "/srv" ∷ codes "x" ∷ []) ≡ ForRun (run_with Three true (codes "/srv") (codes "x" ∷ []))
unfolding chars
both_words = refl
