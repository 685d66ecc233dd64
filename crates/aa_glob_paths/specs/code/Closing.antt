-- How far the sets have been followed.
use Rattle.std.specs.Prelude.{◌≡◌, ◌≢◌, ◌⊎◌, ℕ, ◌^◌, ◌<◌, ◌≤◌, Bool, List, [], ◌∷◌, ◌++◌, length, All, Contains}
use Rattle.aa_glob_nfa.specs.Graphs.{Graph}
use Rattle.aa_glob_paths.specs.Found.{AreFound, found_at, FoundSet, set_at}
use Rattle.aa_glob_paths.specs.Reachable.{IsFollowed}

-- what was found so far keeps its numbers
pub record Grows (old new : List FoundSet) : Type 0 where
  pub longer : length old ≤ length new
  pub same : (n : ℕ) → n < length old → found_at new n ≡ found_at old n

-- a set was there already, or was appended
pub record HasPlaced (old new : List FoundSet) (one : FoundSet) : Type 0 where
  pub number : ℕ
  pub within : number < length new
  pub there : set_at new number ≡ one.set
  pub only : (new ≡ old) ⊎ ((new ≡ old ++ one ∷ []) × All (λ f. f.set ≢ one.set) old)

-- no set was found from one after that of a number
abbrev pub ComeOfUpTo : List FoundSet → ℕ → Type 0
ComeOfUpTo found n = All (λ f. f.origin.from ≤ n) found

-- a set is followed by each of some bytes
abbrev pub IsFollowedBehind : Graph → List Bool → List Bool → List FoundSet → ℕ → List ℕ → Type 0
IsFollowedBehind g wanted settled found n bytes = (c : ℕ) → Contains bytes c → IsFollowed g wanted settled found n c

-- a set is followed by each byte
abbrev pub IsFollowedByAll : Graph → List Bool → List Bool → List FoundSet → ℕ → Type 0
IsFollowedByAll g wanted settled found n = (c : ℕ) → c < 2 ^ 8 → IsFollowed g wanted settled found n c

-- the sets before a number are followed by each byte
abbrev pub IsClosedBefore : Graph → List Bool → List Bool → List FoundSet → ℕ → Type 0
IsClosedBefore g wanted settled found at = (n : ℕ) → n < at → IsFollowedByAll g wanted settled found n

-- sets that were found, with maybe more of them than before, which were found from those up to a number
pub record AreMore (g : Graph) (room n : ℕ) (old new : List FoundSet) : Type 0 where
  pub found : AreFound g room new
  pub up_to : ComeOfUpTo new n
  pub grows : Grows old new
