-- How far the bytes have been looked for that the states of a set tell apart.
use Rattle.std.specs.Prelude.{◌≡◌, ◌⊎◌, ℕ, true, false, List, Contains}
use Rattle.aa_bytes.specs.ByteMaps.{in_map}
use Rattle.aa_bytes.specs.Bytes.{slash}
use Rattle.aa_bytes.specs.declared.byte_map.ByteMap.{ByteMap}
use Rattle.aa_glob_nfa.specs.Entries.{takes_byte}
use Rattle.aa_glob_nfa.specs.Graphs.{Graph, Leads, entry_of}

-- a byte is among some, and isn't in the set
abbrev pub IsUntold : List ℕ → ByteMap → ℕ → Type 0
IsUntold bytes told c = Contains bytes c × (in_map told c ≡ false)

-- what ends a path and what ends a segment of one are in the set
abbrev pub HasEnds : ByteMap → Type 0
HasEnds told = (in_map told 0 ≡ true) × (in_map told slash ≡ true)

-- what was in the set still is
abbrev pub KeepsTold : ByteMap → ByteMap → Type 0
KeepsTold old new = (c : ℕ) → in_map old c ≡ true → in_map new c ≡ true

-- the bytes that aren't in the set all lead into a state, or none does
abbrev pub TellsEntry : Graph → List ℕ → ByteMap → ℕ → Type 0
TellsEntry g bytes told r =
    (c d : ℕ) → IsUntold bytes told c → IsUntold bytes told d → takes_byte (entry_of g r) c ≡ takes_byte (entry_of g r) d

-- the bytes that aren't in the set all lead into a state, or none does, for each state of a kind
abbrev pub TellsWays : (ℕ → Type 0) → Graph → List ℕ → ByteMap → Type 0
TellsWays Kind g bytes told = (r : ℕ) → Kind r → TellsEntry g bytes told r

-- the bytes that aren't in the set all lead into a state, or none does, for each state to which a way leads from one of a set of states
abbrev pub TellsSet : Graph → List ℕ → ByteMap → List ℕ → Type 0
TellsSet g bytes told set = (q : ℕ) → Contains set q → TellsWays (Leads g q) g bytes told

-- a byte stands for another: they are equal, or neither is in the set
abbrev pub StandsFor : ByteMap → ℕ → ℕ → Type 0
StandsFor told b c = (b ≡ c) ⊎ ((in_map told b ≡ false) × (in_map told c ≡ false))

-- one of the picked bytes stands for a byte
abbrev pub HasStanding : ByteMap → List ℕ → ℕ → Type 0
HasStanding told own c = (b : ℕ) × Contains own b × StandsFor told b c

-- bytes that stand for some, and are among them
pub record ArePicked (bytes : List ℕ) (told : ByteMap) (own : List ℕ) : Type 0 where
  pub each : (c : ℕ) → Contains bytes c → HasStanding told own c
  pub only : (b : ℕ) → Contains own b → Contains bytes b
