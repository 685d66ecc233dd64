-- Texts that are joined: each followed by each end, and cut off where no more is of use.
use Rattle.std.specs.Prelude.{ℕ, List, ◌++◌, map, flat_map, take, Vec}

-- how many bytes of a text are kept at most: one more than a pattern may have
abbrev pub most_kept : ℕ
most_kept = 4097

-- each text, cut off after the most bytes that are kept
abbrev pub cut_off : List (List ℕ) → List (List ℕ)
cut_off texts = map (take most_kept) texts

-- each text followed by each end, all ends of the first text first
abbrev pub joined : List (List ℕ) → List (List ℕ) → List (List ℕ)
joined texts ends = flat_map (λ text. map (λ end. text ++ end) ends) texts

-- texts in memory, without their capacities
abbrev pub as_texts : {A : Type 0} → List (Vec ℕ A) → List (List ℕ)
as_texts texts = map (λ t. t.items) texts

-- the texts of a vector of them
abbrev pub texts_of : {A B : Type 0} → Vec (Vec ℕ A) B → List (List ℕ)
texts_of texts = as_texts texts.items
