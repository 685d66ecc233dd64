-- What tells bytes apart: the byte that leads into a state, and the sets of classes.
use Rattle.std.specs.Prelude.{◌≡◌, ◌⊎◌, ℕ, ◌<◌, true, List, All, Contains}
use Rattle.aa_bytes.specs.ByteMaps.{in_map}
use Rattle.aa_bytes.specs.declared.byte_map.ByteMap.{ByteMap}
use Rattle.aa_glob_nfa.specs.Graphs.{Graph}
use Rattle.aa_glob_nfa.specs.Tables.{State, state_at}
use Rattle.aa_glob_nfa.specs.declared.state.ClassRow.{ClassRow}
use Rattle.aa_glob_nfa.specs.declared.state.Gate.TheVariants.{Byte}
use Rattle.aa_glob_paths.specs.Alike.{AreAlike}

-- a set has each byte that alone leads into one of the first states
abbrev pub HasOwnBytes : List State → ℕ → ByteMap → Type 0
HasOwnBytes states count own = (q b : ℕ) → q < count → (state_at states q).gate ≡ Byte b → in_map own b ≡ true

-- the sets of classes have both bytes, or neither
abbrev pub HaveAlike : List ClassRow → ℕ → ℕ → Type 0
HaveAlike classes c d = All (λ row. in_map row.map c ≡ in_map row.map d) classes

-- bytes were given one like another, if they had none
pub record GetsLike (g : Graph) (old new : List ℕ) (byte : ℕ) : Type 0 where
  pub keeps : (b : ℕ) → Contains old b → Contains new b
  pub only : (b : ℕ) → Contains new b → Contains old b ⊎ (b ≡ byte)
  pub like : (b : ℕ) × Contains new b × AreAlike g b byte

-- bytes were given one like each of some others, and only of those
pub record GetsLikeEach (g : Graph) (old new more : List ℕ) : Type 0 where
  pub keeps : (b : ℕ) → Contains old b → Contains new b
  pub only : (b : ℕ) → Contains new b → Contains old b ⊎ Contains more b
  pub like : (c : ℕ) → Contains more c → (b : ℕ) × Contains new b × AreAlike g b c
