-- What words ask for that are no options.
use Rattle.std.proofs.Common.{◌≡◌, ◌∙◌, ℕ, Bool, true, false, List, [], ◌∷◌, refl, sym, ap, codes}
use Rattle.std.specs.List.{list_all}
use Rattle.std.specs.Str.{bytes_eq, chars}
use Rattle.std.proofs.lemmas.Slice.Eq.{bytes_eq-Decides}
use Rattle.aa_start.specs.Options.{ForThis, Open, Options, asked_behind, is_name, is_option}

-- `--` is an option
dashes_option : is_option (codes "--") ≡ true
unfolding chars
dashes_option = refl

-- a word that is no option is one more of the words
pub plain_word : {A : Type 0} (options : Options A) (word : List ℕ) (words : List (List ℕ)) (given : A) → is_option word ≡ false
    → asked_behind options (Open given) (word ∷ words) ≡ asked_behind options (Open (options.with_words (word ∷ []) given)) words
plain_word options word words given o = by (bytes_eq word (codes "--")) refl
  where
    by : (d : Bool) → bytes_eq word (codes "--") ≡ d
        → asked_behind options (Open given) (word ∷ words) ≡ asked_behind options (Open (options.with_words (word ∷ []) given)) words
    by true d =
        let same = (bytes_eq-Decides word (codes "--")).0 d in
        let bad : false ≡ true = sym o ∙ ap is_option same ∙ dashes_option in
        cc
    by false d = rw (d, o) refl

pub plain_words : {A : Type 0} (options : Options A) → ((given : A) → options.with_words [] given ≡ given)
    → ((word : List ℕ) (more : List (List ℕ)) (given : A) → options.with_words more (options.with_words (word ∷ []) given) ≡ options.with_words (word ∷ more) given)
    → (words : List (List ℕ)) (given : A) → list_all is_name words ≡ true → asked_behind options (Open given) words ≡ ForThis (options.with_words words given)
plain_words options none one [] given h = ap (λ given. ForThis given) (sym (none given))
plain_words options none one (word ∷ words) given h = by (is_option word) refl (plain_words options none one words (options.with_words (word ∷ []) given))
  where
    by : (o : Bool) → is_option word ≡ o
        → (list_all is_name words ≡ true
        → asked_behind options (Open (options.with_words (word ∷ []) given)) words ≡ ForThis (options.with_words words (options.with_words (word ∷ []) given)))
        → asked_behind options (Open given) (word ∷ words) ≡ ForThis (options.with_words (word ∷ words) given)
    by true o more = absurd (let bad : false ≡ true = rw o at h in cc)
    by false o more = plain_word options word words given o ∙ more (rw o at h) ∙ ap (λ given. ForThis given) (one word words given)
