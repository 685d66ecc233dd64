-- Lists of texts, each of which has a number: how many were made before it.
use Rattle.std.specs.Prelude.{ℕ, ◌≡◌, ◌<◌, ◌≤◌, List, [], length, slice_index_or}
use Rattle.aa_text_expansion.specs.Joining.{cut_off}

-- the texts of the list of a number; none where no list has it
abbrev pub list_at : List (List (List ℕ)) → ℕ → List (List ℕ)
list_at lists number = slice_index_or lists number []

-- the lists before have the numbers and texts that they had
pub record AreKept (before after : List (List (List ℕ))) : Type 0 where
  pub as_many : length before ≤ length after
  pub same : (number : ℕ) → number < length before → list_at after number ≡ list_at before number

-- A number is that of a list of these texts, each cut off; and the lists before are kept.
pub record IsMade (before : List (List (List ℕ))) (number : ℕ) (texts : List (List ℕ)) (after : List (List (List ℕ))) : Type 0 where
  pub kept : AreKept before after
  pub within : number < length after
  pub value : cut_off (list_at after number) ≡ cut_off texts
