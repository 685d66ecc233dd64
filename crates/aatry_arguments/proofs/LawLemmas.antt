-- What holds of checks.
use Rattle.std.proofs.Common.{◌≡◌, ◌∙◌, ℕ, true, false, List, [], ◌∷◌, refl, codes}
use Rattle.std.specs.List.{list_all}
use Rattle.std.specs.Str.{chars}
use Rattle.aa_start.specs.Options.{Open, is_name, is_option}
use Rattle.aa_start.proofs.PlainLemmas.{plain_words as words_plain}
use Rattle.aatry_arguments.specs.Arguments.{ForCheck, asked}
use Rattle.aa_start.specs.Options.{ForThis}
use Rattle.aatry_arguments.proofs.CheckLemmas.{names_in_turn, no_names}
use Rattle.aatry_arguments.specs.CheckWords.{CheckAsked, asked_behind, below, check_options, check_with, with_names}

pub plain_words : (words : List (List ℕ)) (check : CheckAsked) → list_all is_name words ≡ true → asked_behind (Open check) words ≡ ForThis (with_names words check)
plain_words words check h = words_plain check_options no_names names_in_turn words check h

pub base_word : (words : List (List ℕ)) (folder : List ℕ) (check : CheckAsked) → is_option folder ≡ false
    → asked_behind (Open check) (codes "-b" ∷ folder ∷ words) ≡ asked_behind (Open (below folder check)) words
unfolding chars
base_word words folder check o = rw o refl

pub last_word : (words : List (List ℕ)) (first last : List ℕ) (check : CheckAsked) → is_option first ≡ false → is_option last ≡ false
    → asked_behind (Open check) (codes "-b" ∷ first ∷ codes "-b" ∷ last ∷ words) ≡ asked_behind (Open (below last check)) words
last_word words first last check f l = base_word (codes "-b" ∷ last ∷ words) first check f ∙ base_word words last (below first check) l

pub both_words : asked (codes "check" ∷ codes "x" ∷ codes "-b/srv" ∷ codes "y" ∷ []) ≡ ForThis (ForCheck (check_with (codes "/srv") (codes "x" ∷ codes "y" ∷ [])))
unfolding chars
both_words = refl
