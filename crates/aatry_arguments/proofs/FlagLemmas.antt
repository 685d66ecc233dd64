-- What holds of words that are flags.
use Rattle.std.proofs.Common.{◌≡◌, ◌++◌, ℕ, Bool, true, false, List, [], ◌∷◌, append-nil, refl, ap, subst, codes}
use Rattle.std.specs.List.{list_all}
use Rattle.std.specs.Str.{bytes_eq, chars}
use Rattle.std.proofs.lemmas.Slice.Eq.{bytes_eq-Decides}
use Rattle.aa_start.specs.Options.{is_name, is_option}
use Rattle.aatry_arguments.specs.Flags.{is_given, without_flag}
use Rattle.aatry_arguments.specs.Languages.{ends_options}

-- words among which a flag isn't given are the same without it
pub none_given : (flag : List ℕ) (words : List (List ℕ)) → is_given flag words ≡ false → without_flag flag words ≡ words
none_given flag [] none = refl
none_given flag (word ∷ words) none = by (λ left. none_given flag words left) (ends_options word) refl (bytes_eq word flag) refl
  where
    by : (is_given flag words ≡ false → without_flag flag words ≡ words) → (e : Bool) → ends_options word ≡ e → (f : Bool) → bytes_eq word flag ≡ f
        → without_flag flag (word ∷ words) ≡ word ∷ words
    by rest true e f ff = rw e refl
    by rest false e true f = let given : true ≡ false = rw (e, f) at none in cc
    by rest false e false f = let left : is_given flag words ≡ false = rw (e, f) at none in rw (e, f) (ap (λ others. word ∷ others) (rest left))

-- a word that is no option is another than one that is
pub no_option : (option word : List ℕ) → is_option option ≡ true → is_option word ≡ false → bytes_eq word option ≡ false
no_option option word is none = by (bytes_eq word option) refl
  where
    by : (b : Bool) → bytes_eq word option ≡ b → b ≡ false
    by false h = refl
    by true h = let same : is_option word ≡ is_option option = ap is_option ((bytes_eq-Decides word option).0 h) in cc

-- `--` is an option
pub dashes_option : is_option (codes "--") ≡ true
unfolding chars
dashes_option = refl

-- ahead of words among which a flag isn't given, words that are no options don't give it either
pub names_before : (flag : List ℕ) (names words : List (List ℕ)) → is_option flag ≡ true → list_all is_name names ≡ true → is_given flag words ≡ false
    → is_given flag (names ++ words) ≡ false
names_before flag [] words is named none = none
names_before flag (name ∷ names) words is named none = by (is_option name) refl (λ left. names_before flag names words is left none)
  where
    by : (o : Bool) → is_option name ≡ o → (list_all is_name names ≡ true → is_given flag (names ++ words) ≡ false)
        → is_given flag (name ∷ names ++ words) ≡ false
    by true h rest = let not_named : false ≡ true = rw h at named in cc
    by false h rest =
        let left : list_all is_name names ≡ true = rw h at named in
        let on : ends_options name ≡ false = no_option (codes "--") name dashes_option h in
        rw (on, no_option flag name is h) (rest left)

-- among words that are no options no flag is given
pub names_alone : (flag : List ℕ) (names : List (List ℕ)) → is_option flag ≡ true → list_all is_name names ≡ true → is_given flag names ≡ false
names_alone flag names is named = subst (λ words. is_given flag words ≡ false) (append-nil names) (names_before flag names [] is named refl)
