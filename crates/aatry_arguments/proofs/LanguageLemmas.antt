-- What words say of the language.
use Rattle.std.proofs.Common.{◌≡◌, ℕ, ◌-◌, ◌≤◌, false, List, [], ◌∷◌, ◌++◌, append_assoc, arith, drop, get_or, length, take, Option, None, Some, refl, sym, ap, ◌∙◌}
use Rattle.std.proofs.lemmas.List.{take_rest}
use Rattle.std.specs.Option.{option_map}
use Rattle.aa_profile_parsing.specs.declared.language.Language.{Language}
use Rattle.aatry_arguments.specs.Languages.{ByLanguage, by_language, ends_options, is_language_word, language_in, with_word}
use Rattle.aatry_arguments.specs.code.WordsSoFar.{with_words}

-- words and one more before others
pub words_push : (words : List (List ℕ)) (word : List ℕ) (read : Option ByLanguage)
    → option_map (with_words (words ++ word ∷ [])) read ≡ option_map (with_words words) (option_map (with_word word) read)
words_push words word None = refl
words_push words word (Some read) = ap (λ (all : List (List ℕ)). Some (record { language = read.language; words = all })) (append_assoc words (word ∷ []) read.words)

-- a word that is no option of the language is left
pub word_left : (language : Language) (word : List ℕ) (words : List (List ℕ)) → ends_options word ≡ false → is_language_word word ≡ false → language_in word ≡ None
    → by_language (Some language) (word ∷ words) ≡ option_map (with_word word) (by_language (Some language) words)
word_left language word words e f g = rw (by_language, e, f, g) refl

-- a list from its first item and the others
pub parts_of : {X : Type 0} (xs : List X) (x : X) → 1 ≤ length xs → x ≡ get_or xs 0 x → xs ≡ x ∷ take (length xs - 1) (drop 1 xs)
parts_of [] x some is = absurd (omega arith)
parts_of (y ∷ ys) x some is = let same : x ≡ y = is in ap (λ item. item ∷ ys) (sym same) ∙ ap (λ rest. x ∷ rest) (sym (take_rest (y ∷ ys) 1))
