-- The flags of a list that decide nothing, word by word.
use Rattle.std.proofs.Common.{◌≡◌, ℕ, List, [], ◌∷◌, ◌++◌, refl, sym}
use Rattle.std.specs.Prelude.{not}
use Rattle.std.specs.List.{filter, slice_split}
use Rattle.std.proofs.lemmas.List.Elements.{filter-append}
use Rattle.aa_bytes.specs.Texts.{is_empty}
use Rattle.aa_profile_parsing.specs.declared.language.Language.{Language}
use Rattle.aa_profile_parsing.specs.declared.language.Language.TheVariants.{Four, Three}
use Rattle.aa_profile_parsing.specs.Flags.{is_idle, separates}
use Rattle.aa_profile_parsing.specs.IdleFlags.{idle_words}

-- words that have a byte
abbrev with_bytes : List (List ℕ) → List (List ℕ)
with_bytes words = filter (λ word. not (is_empty word)) words

-- one of them, and those behind it: a word with no byte is no flag
idle-behind : (language : Language) (word : List ℕ) (words : List (List ℕ))
    → filter (is_idle language) (word ∷ []) ++ filter (is_idle language) (with_bytes words) ≡ filter (is_idle language) (with_bytes (word ∷ words))
idle-behind Three [] words = refl
idle-behind Four [] words = refl
idle-behind language (b ∷ bs) words = sym (filter-append (is_idle language) ((b ∷ bs) ∷ []) (with_bytes words))

-- the same of the first word of a text, and what stands behind its separator
pub idle-first : (language : Language) (text more word : List ℕ) → slice_split separates text ≡ word ∷ slice_split separates more
    → filter (is_idle language) (word ∷ []) ++ idle_words language more ≡ idle_words language text
idle-first language text more word cut = rw cut (idle-behind language word (slice_split separates more))
