-- The pattern relation: which texts match a pattern (apparmor.d(5), "Globbing").
use Rattle.std.specs.Prelude.{◌≡◌, ◌≢◌, ℕ, Bool, true, false, ◌==◌, ◌||◌, ◌&&◌, not, List, [], ◌∷◌, ◌++◌, ◌⊎◌}
use Rattle.std.specs.List.{list_all, All}
use Rattle.std.specs.Str.{bytes_eq}
use Rattle.aa_bytes.specs.ByteSets.{has, is_inside}
use Rattle.aa_bytes.specs.Bytes.{slash}
use Rattle.aa_glob_syntax.specs.Items.{Item, Byte, Set, Star, DoubleStar, Group, Pattern, End, Next, Patterns, NoMore, More}

-- a byte within a segment of a path
abbrev pub IsInside : ℕ → Type 0
IsInside b = (b ≢ 0) × (b ≢ slash)

abbrev mutual
  -- an item matches a text
  pub IsOf : Item → List ℕ → Type 0
  IsOf (Byte b) u = u ≡ b ∷ []
  IsOf (Set set) u = (b : ℕ) × (u ≡ b ∷ []) × (has set b ≡ true)
  IsOf Star u = All IsInside u
  IsOf DoubleStar u = All (λ b. b ≢ 0) u
  IsOf (Group first second others) u = Matches first u ⊎ (Matches second u ⊎ SomeMatches others u)

  -- The empty pattern matches the empty text alone. Any other pattern matches a text that consists of a text which its first item matches and one
  -- which the remaining items match.
  pub Matches : Pattern → List ℕ → Type 0
  Matches End s = s ≡ []
  Matches (Next item items) s = (u v : List ℕ) × (s ≡ u ++ v) × IsOf item u × Matches items v

  -- a text matches one of the patterns
  pub SomeMatches : Patterns → List ℕ → Type 0
  SomeMatches NoMore s = ⊥
  SomeMatches (More pattern patterns) s = Matches pattern s ⊎ SomeMatches patterns s

-- The relation as a test, which contracts name: `matching_is_by_splits` is the law that the two agree.

-- some way to split a text into two passes the test
abbrev pub some_split : (List ℕ → List ℕ → Bool) → List ℕ → Bool
some_split test [] = test [] []
some_split test (b ∷ bs) = test [] (b ∷ bs) || some_split (λ u v. test (b ∷ u) v) bs

-- a text is one byte of a set
abbrev pub is_one_of : (ℕ → Bool) → List ℕ → Bool
is_one_of set [] = false
is_one_of set (b ∷ bs) = set b && bytes_eq bs []

abbrev mutual
  -- an item matches a text
  pub is_of : Item → List ℕ → Bool
  is_of (Byte b) u = bytes_eq u (b ∷ [])
  is_of (Set set) u = is_one_of (has set) u
  is_of Star u = list_all is_inside u
  is_of DoubleStar u = list_all (λ b. not (b == 0)) u
  is_of (Group first second others) u = matches first u || (matches second u || some_matches others u)

  -- a text matches a pattern
  pub matches : Pattern → List ℕ → Bool
  matches End s = bytes_eq s []
  matches (Next item items) s = some_split (λ u v. is_of item u && matches items v) s

  -- a text matches one of the patterns
  pub some_matches : Patterns → List ℕ → Bool
  some_matches NoMore s = false
  some_matches (More pattern patterns) s = matches pattern s || some_matches patterns s
