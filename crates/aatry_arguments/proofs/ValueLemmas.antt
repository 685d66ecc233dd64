-- What words say of an option that takes a value.
use Rattle.std.proofs.Common.{◌≡◌, ◌∙◌, ℕ, false, List, [], ◌∷◌, ◌++◌, append_assoc, Option, None, Some, refl, sym, ap}
use Rattle.std.specs.Option.{option_map}
use Rattle.std.specs.Str.{bytes_eq}
use Rattle.aatry_arguments.specs.Languages.{ends_options}
use Rattle.aatry_arguments.specs.Values.{ValueOption, WithValue, value_in, value_within, with_word}
use Rattle.aatry_arguments.specs.code.ValueSoFar.{read_behind, with_words}

-- words and one more before others
words_before : (words : List (List ℕ)) (word : List ℕ) (read : Option WithValue)
    → option_map (with_words (words ++ word ∷ [])) read ≡ option_map (with_words words) (option_map (with_word word) read)
words_before words word None = refl
words_before words word (Some read) = ap (λ (all : List (List ℕ)). Some (record { value = read.value; words = all })) (append_assoc words (word ∷ []) read.words)

-- a word that says nothing of an option is left
word_left : (option : ValueOption) (value : Option (List ℕ)) (word : List ℕ) (words : List (List ℕ)) → ends_options word ≡ false → bytes_eq word option.word ≡ false
    → value_within option.opening word ≡ None → value_in option (Some value) (word ∷ words) ≡ option_map (with_word word) (value_in option (Some value) words)
word_left option value word words e f g = rw (value_in, e, f, g) refl

-- and stands behind those before it
pub word_kept : (option : ValueOption) (value : Option (List ℕ)) (others : List (List ℕ)) (word : List ℕ) (words : List (List ℕ)) → ends_options word ≡ false
    → bytes_eq word option.word ≡ false → value_within option.opening word ≡ None
    → read_behind option (others ++ word ∷ []) (Some value) words ≡ read_behind option others (Some value) (word ∷ words)
word_kept option value others word words e f g =
    words_before others word (value_in option (Some value) words) ∙ ap (option_map (with_words others)) (sym (word_left option value word words e f g))
