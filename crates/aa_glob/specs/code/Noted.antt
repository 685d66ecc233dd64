-- What is noted for places, and what that says of the other places of a tree.
use Rattle.std.specs.Prelude.{◌≡◌, ◌<◌, ℕ, ◌==◌, ◌&&◌, not, Bool, true, Option, None, Some, List, length, nat_eq, slice_get}
use Rattle.std.specs.Map.{lookup}
use Rattle.aa_glob.specs.Tree.{is_number, key, nothing, nowhere}

-- no place follows the one for which this is noted; nor one that doesn't exist
abbrev pub has_none_behind : Option ℕ → Bool
has_none_behind None = true
has_none_behind (Some noted) = noted == nothing

-- where that is noted for a place, none of the other places follows it either
abbrev pub AreNoted : List ℕ → List (ℕ × ℕ) → Type 0
AreNoted on others =
    (place number : ℕ) → number < nowhere → has_none_behind (slice_get on place) ≡ true → lookup (nat_eq (key place number)) others ≡ None

-- For a place, it is noted that other places may follow it: the numbers that are noted don't change, nor what is noted for other places.
pub record NotesOthers (old : List ℕ) (place : ℕ) (new : List ℕ) : Type 0 where
  pub count : length new ≡ length old
  pub noted : (p n : ℕ) → is_number n (slice_get new p) ≡ is_number n (slice_get old p)
  pub behind : (p : ℕ) → has_none_behind (slice_get new p) ≡ (has_none_behind (slice_get old p) && not (p == place))
